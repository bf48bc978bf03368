-- The checks of a call's lists and of what they hold, by the definitions.
-- Assumes nothing.
use Rattle.std.specs.Prelude.{Ok, ◌≡◌, true, not, ◌&&◌, ◌||◌, Bool, List, [], ◌∷◌, ℕ, ◌+◌, ◌≤◌, eqb, leb, ℤ, length}
use Rattle.std.proofs.Common.{sym, arith, eqb-true, le-leb}
use Rattle.lists.specs.laws.Tests.{and_both}
use Rattle.refusal.specs.declared.Refusal.TheVariants.{Pattern, Mask, Iterations, Coder}
use Rattle.refusal.specs.Refusals.{Reply, ◌unless◌, first_of}
use Rattle.refusal.specs.laws.InTurn.{Each, each_holds}
use Rattle.trellis.specs.Limits.{channel_check}
use Rattle.trellis.specs.Table.{table_checks}
use Rattle.trellis.specs.laws.Branches.{shaped_is}
use Rattle.frame.specs.Frame.{Frame, tail_of, tail1, tail2, sections1, sections2, longer, good_sizes, good_masks, good_coder, good_iterations, length_under, work_length}
use Rattle.frame.specs.Frame.{sizes_fit, masks_fit, codes, frame_length}
use Rattle.frame.specs.Interleaver.{permutes}
use Rattle.frame.proofs.laws.Checked.{sizes_small}
use Rattle.decoder.specs.Decoder.{DecodeLent, decode_lists_fit}
use Rattle.decoder.specs.laws.Format.{format_of}
use Rattle.decoder.specs.laws.Settled.{Sized}

module _ (f : Frame) (received : List ℤ) (iterations : ℕ) (l : DecodeLent) {u : Unit {0}} (table : Ok u ≡ first_of (table_checks f.table)) (sizes : sizes_fit f ≡ true) where
  few_states : leb f.table.states 16 ≡ true
  unfolding table_checks Each
  few_states = le-leb _ _ (shaped_is f.table (each_holds (table_checks f.table) (sym table)).0).most_states

  -- the sizes are tested again where the lists are measured, and pass
  pub measured : {bits margins extrinsics work : ℕ} → Sized l bits margins extrinsics work → {b : Bool} →
      b ≡ (eqb (length f.pattern) f.bits
      && (good_sizes f.bits f.tail
      && (not (good_masks f.masks) || eqb (length received) (length_under f.masks f.bits (tail_of f.first f.tail + tail_of f.second f.tail))))
      && eqb bits f.bits
      && eqb margins f.bits
      && eqb extrinsics f.bits
      && eqb work (work_length (format_of f))) →
      b ≡ decode_lists_fit (record { frame = f; received = received; iterations = iterations }) l
  unfolding decode_lists_fit masks_fit frame_length tail1 tail2 sections1 sections2 longer sizes_fit
  measured sized e = rw (sized.bits_sized, sized.margins_sized, sized.extrinsics_sized, sized.work_sized) (rw (sizes, few_states) at e)

  -- what the lists hold, where they fit
  pub entries : {x : Reply} → decode_lists_fit (record { frame = f; received = received; iterations = iterations }) l ≡ true →
      x ≡ first_of
      (channel_check received
      ∷ Pattern unless (leb (length f.pattern) 4096 && permutes (length f.pattern) f.pattern)
      ∷ Mask unless good_masks f.masks
      ∷ Iterations unless good_iterations iterations
      ∷ Coder unless good_coder f.table
      ∷ []) →
      x ≡ first_of
      (channel_check received
      ∷ Pattern unless permutes f.bits f.pattern
      ∷ Mask unless masks_fit f
      ∷ Iterations unless good_iterations iterations
      ∷ Coder unless codes f
      ∷ [])
  unfolding decode_lists_fit masks_fit codes sizes_fit
  entries fit e =
      let (to-extrinsics, work) = and_both _ _ fit in
      let (to-margins, extrinsics) = and_both _ _ to-extrinsics in
      let (to_bits, margins) = and_both _ _ to-margins in
      let (inputs, bits) = and_both _ _ to_bits in
      let long : length f.pattern ≡ f.bits = eqb-true _ _ (and_both _ _ inputs).0 in
      let few : f.bits ≤ 4096 = omega (arith, (sizes_small f.bits f.tail sizes).1) in
      rw (long, le-leb f.bits 4096 few) at e
