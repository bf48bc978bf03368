-- What is known of a call of the frame decoder that its checks accept, and of one that has a path and no forced message position.
-- Assumes nothing.
use Rattle.std.specs.Prelude.{◌≡◌, refl, Bool, true, false, not, ◌||◌, ℕ, ◌+◌, ◌*◌, ◌≤◌, ◌<◌, length, Ok}
use Rattle.std.proofs.lemmas.Bool.{false≢true}
use Rattle.std.proofs.Common.{add-zero, eqb-true, leb-true}
use Rattle.lists.specs.laws.Every.{none_upto_at}
use Rattle.lists.specs.laws.Tests.{and_both}
use Rattle.refusal.specs.Refusals.{first_of}
use Rattle.refusal.specs.laws.InTurn.{both_done, Each, each_holds, each_done}
use Rattle.trellis.specs.declared.End.TheVariants.{Zero, Open}
use Rattle.trellis.specs.Table.{table_checks}
use Rattle.trellis.specs.Limits.{channel_fits}
use Rattle.trellis.specs.Outcome.{pathless, forced}
use Rattle.trellis.proofs.laws.Returning.{LeadsBack, back_has_path, back_none_forced, open_has_path, open_none_forced}
use Rattle.frame.specs.Frame.{Frame, tail_of, tail1, tail2, sections1, sections2, longer, frame_length}
use Rattle.frame.proofs.laws.Checked.{Framed}
use Rattle.decoder.specs.Decoder.{DecodeCall, DecodeLent, decode_lists_fit, decode_lent_checks, both_walked, both_free, decode_path_checks, decode_checks}

pub record Decodable (c : DecodeCall) (l : DecodeLent) : Type 0 where
  pub framed : Framed c.frame
  pub received_long : length c.received ≡ frame_length c.frame
  pub bits_long : length l.bits ≡ c.frame.bits
  pub margins_long : length l.margins ≡ c.frame.bits
  pub extrinsics_long : length l.extrinsics ≡ c.frame.bits
  pub work_long : length l.work ≡ (longer c.frame + 1) * c.frame.table.states
  pub values : channel_fits c.received ≡ true
  pub some_iteration : 1 ≤ c.iterations
  pub few_iterations : c.iterations ≤ 32

-- neither 12 nor 13
pub record Walkable (f : Frame) : Type 0 where
  pub some_path1 : pathless f.table f.first (sections1 f) ≡ false
  pub some_path2 : pathless f.table f.second (sections2 f) ≡ false
  pub free1 : (k : ℕ) → k < f.bits → forced f.table f.first (sections1 f) k ≡ false
  pub free2 : (k : ℕ) → k < f.bits → forced f.table f.second (sections2 f) k ≡ false

pub decodable : (c : DecodeCall) (l : DecodeLent) → first_of (decode_lent_checks c l) ≡ Ok tt → Decodable c l
unfolding decode_lent_checks table_checks Each decode_lists_fit
decodable c l e =
    let (shape, (branches, (sizes, (lists, (values, (permutes, (masks, (iterations, (codes, end))))))))) = each_holds (decode_lent_checks c l) e in
    let (to-extrinsics, work) = and_both _ _ lists in
    let (to-margins, extrinsics) = and_both _ _ to-extrinsics in
    let (to_bits, margins) = and_both _ _ to-margins in
    let (inputs, bits) = and_both _ _ to_bits in
    let (pattern_long, frame) = and_both _ _ inputs in
    let (some_iteration, few_iterations) = and_both _ _ iterations in
    record {
      framed = record {
        shape = shape;
        branches = branches;
        sizes = sizes;
        pattern_long = eqb-true _ _ pattern_long;
        permutes = permutes;
        masks = masks;
        codes = codes;
      };
      received_long = eqb-true _ _ (rw masks at frame);
      bits_long = eqb-true _ _ bits;
      margins_long = eqb-true _ _ margins;
      extrinsics_long = eqb-true _ _ extrinsics;
      work_long = eqb-true _ _ work;
      values = values;
      some_iteration = leb-true _ _ some_iteration;
      few_iterations = leb-true _ _ few_iterations;
    }

-- neither of two
neither : (b d : Bool) → not (b || d) ≡ true → (b ≡ false) × (d ≡ false)
neither true d e = absurd (false≢true e)
neither false true e = absurd (false≢true e)
neither false false e = (refl, refl)

pub walkable : (f : Frame) → first_of (decode_path_checks f) ≡ Ok tt → Walkable f
unfolding decode_path_checks Each both_walked both_free
walkable f e =
    let (walked, (free, end)) = each_holds (decode_path_checks f) e in
    let (path1, path2) = neither _ _ walked in
    let (free1, free2) = neither _ _ free in
    record {
      some_path1 = path1;
      some_path2 = path2;
      free1 = none_upto_at _ f.bits free1;
      free2 = none_upto_at _ f.bits free2;
    }

-- a frame with two zero ends over a table that leads back in its tail sections has a path, and none of its message positions is forced
pub walked_back : (f : Frame) → f.first ≡ Zero → f.second ≡ Zero → LeadsBack f.table f.tail → first_of (decode_path_checks f) ≡ Ok tt
unfolding decode_path_checks Each both_walked both_free sections1 sections2 tail1 tail2 tail_of
walked_back f e1 e2 w =
    let path = back_has_path f.table f.tail w f.bits in
    let free = back_none_forced f.table f.tail w f.bits in
    each_done (decode_path_checks f) (rw (e1, e2, path), (rw (e1, e2, free), tt))

-- so it is with two open ends, over any table
pub walked_open : (f : Frame) → f.first ≡ Open → f.second ≡ Open → 0 < f.table.states → first_of (decode_path_checks f) ≡ Ok tt
unfolding decode_path_checks Each both_walked both_free sections1 sections2 tail1 tail2 tail_of
walked_open f e1 e2 some_state =
    let path = open_has_path f.table some_state f.bits in
    let free = open_none_forced f.table some_state f.bits in
    each_done (decode_path_checks f) (rw (e1, e2, add-zero f.bits, path), (rw (e1, e2, add-zero f.bits, free), tt))

-- a call that is done is both
pub done_is : (c : DecodeCall) (l : DecodeLent) → first_of (decode_checks c l) ≡ Ok tt → Decodable c l × Walkable c.frame
unfolding decode_checks
done_is c l e =
    let (checked, walked) = both_done (decode_lent_checks c l) (decode_path_checks c.frame) e in
    (decodable c l checked, walkable c.frame walked)
