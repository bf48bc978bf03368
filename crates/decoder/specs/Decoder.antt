-- The frame decoder (document 01, "Frame"): its two passes, its iterations, and its whole result.
-- Assumes nothing.
use Rattle.std.specs.Prelude.{Bool, not, ◌&&◌, ◌||◌, List, [], ◌∷◌, ◌++◌, map, ℕ, zero, suc, ◌+◌, ◌*◌, ◌-◌, eqb, ℤ, pos, length, get_or, take, drop, replicate}
use Rattle.lists.specs.Lists.{joined, any, upto}
use Rattle.refusal.specs.declared.Refusal.TheVariants.{Length, Lists, Pattern, Mask, Iterations, Coder, NoPath, ForcedPosition}
use Rattle.refusal.specs.Refusals.{Reply, Check, ◌unless◌, first_of, after, cleared}
use Rattle.trellis.specs.declared.End.{End}
use Rattle.trellis.specs.Table.{table_checks}
use Rattle.trellis.specs.Path.{Values}
use Rattle.trellis.specs.Limits.{channel_check}
use Rattle.trellis.specs.Outcome.{pathless, forced, margins, extrinsics}
use Rattle.frame.specs.Interleaver.{permutes, interleave, deinterleave}
use Rattle.frame.specs.Frame.{Frame, tail_of, tail1, tail2, sections_of, sections1, sections2, longer, sizes_fit, good_iterations, masks_fit, codes, frame_length, flags, spread}
use Rattle.soft.specs.Soft.{hand_over, decided}

-- ---- passes. r has a value for every place of the frame, and a the K a-priori values of the pass, in its own order

abbrev value_at : List ℤ → ℕ → ℤ
value_at r i = get_or r i (pos 0)

-- pass 1 reads systematic i and parity 1 at i, then tail 1. (Of so many positions; t1 and t2 are the tail sections of the coders.)
unfoldable pub channel1_under : ℕ → ℕ → List ℤ → List ℤ
channel1_under bits t1 r = joined (λ i. value_at r (3 * i) ∷ value_at r (3 * i + 1) ∷ []) bits ++ take (2 * t1) (drop (3 * bits) r)

unfoldable pub channel1 : Frame → List ℤ → List ℤ
channel1 f r = channel1_under f.bits (tail1 f) r

-- pass 2 reads systematic pattern(i) and parity 2 at i, then tail 2
unfoldable pub channel2_under : List ℕ → ℕ → ℕ → ℕ → List ℤ → List ℤ
channel2_under pattern bits t1 t2 r =
    joined (λ i. value_at r (3 * get_or pattern i 0) ∷ value_at r (3 * i + 2) ∷ []) bits ++ take (2 * t2) (drop (3 * bits + 2 * t1) r)

unfoldable pub channel2 : Frame → List ℤ → List ℤ
channel2 f r = channel2_under f.pattern f.bits (tail1 f) (tail2 f) r

-- what a pass says of the K message positions, in its own order
pub record Soft : Type 0 where
  pub margins : List ℤ
  pub extrinsics : List ℤ

-- a pass is a lone pass by its coder's end, over K sections and its tail's; tail positions have the a-priori value 0
unfoldable pub pass : Frame → End → List ℤ → List ℤ → Soft
pass f end channel a =
    let v : Values = record { channel = channel; apriori = a ++ replicate (tail_of end f.tail) (pos 0) } in
    record {
      margins = margins f.table v end (sections_of f end) f.bits;
      extrinsics = extrinsics f.table v end (sections_of f end) f.bits;
    }

-- ---- iterations

-- what pass 1 hands to pass 2, and pass 2 back to pass 1: each in the other's order
unfoldable pub hand_on : Frame → Soft → List ℤ
hand_on f s = interleave (pos 0) f.pattern (map hand_over s.extrinsics)

unfoldable pub hand_back : Frame → Soft → List ℤ
hand_back f s = deinterleave (pos 0) f.pattern (map hand_over s.extrinsics)

-- the a-priori values of pass 2, by the channel values of pass 1 and its a-priori values
unfoldable pub handed_on : Frame → List ℤ → List ℤ → List ℤ
handed_on f values1 a = hand_on f (pass f f.first values1 a)

-- by the channel values of pass 1 and of pass 2
module _ (f : Frame) (values1 values2 : List ℤ) where
  -- an iteration is pass 1, then pass 2: what pass 2 says, from the a-priori values of pass 1
  unfoldable pub iteration : List ℤ → Soft
  iteration a = pass f f.second values2 (handed_on f values1 a)

  -- the a-priori values of pass 1 after i iterations, the first of them from a
  unfoldable pub prior_after : List ℤ → ℕ → List ℤ
  prior_after a zero = a
  prior_after a (suc i) = hand_back f (iteration (prior_after a i))

  -- what the last pass 2 of n iterations says, n at least 1
  unfoldable pub last_pass : List ℤ → ℕ → Soft
  last_pass a n = iteration (prior_after a (n - 1))

-- a frame's: the very first pass has the a-priori values 0
abbrev pub decoded_pass : Frame → List ℤ → ℕ → Soft
decoded_pass f r n = last_pass f (channel1 f r) (channel2 f r) (replicate f.bits (pos 0)) n

-- ---- the whole result

-- what the frame decoder reads
pub record DecodeCall : Type 0 where
  pub frame : Frame
  pub received : List ℤ
  pub iterations : ℕ

-- what it writes: the result lists (bits, margins, extrinsics) and the working list
pub record DecodeLent : Type 0 where
  pub bits : List ℕ
  pub margins : List ℤ
  pub extrinsics : List ℤ
  pub work : List ℤ

-- every list has its exact length; the frame's is measured only where 9 does not apply (not so: 5)
unfoldable pub decode_lists_fit : DecodeCall → DecodeLent → Bool
decode_lists_fit c l =
    let f = c.frame in
    eqb (length f.pattern) f.bits
    && (not (masks_fit f) || eqb (length c.received) (frame_length f))
    && eqb (length l.bits) f.bits
    && eqb (length l.margins) f.bits
    && eqb (length l.extrinsics) f.bits
    && eqb (length l.work) ((longer f + 1) * f.table.states)

-- the checks of what is lent, in their order
unfoldable pub decode_lent_checks : DecodeCall → DecodeLent → List Check
decode_lent_checks c l =
    let f = c.frame in
    table_checks f.table
    ++ (Length unless sizes_fit f
    ∷ Lists unless decode_lists_fit c l
    ∷ channel_check c.received
    ∷ Pattern unless permutes f.bits f.pattern
    ∷ Mask unless masks_fit f
    ∷ Iterations unless good_iterations c.iterations
    ∷ Coder unless codes f
    ∷ [])

-- each pass has a path (not so: 12)
unfoldable pub both_walked : Frame → Bool
both_walked f = not (pathless f.table f.first (sections1 f) || pathless f.table f.second (sections2 f))

-- no message position is forced in either pass (not so: 13)
unfoldable pub both_free : Frame → Bool
both_free f =
    not
    (any (forced f.table f.first (sections1 f)) (upto f.bits)
    || any (forced f.table f.second (sections2 f)) (upto f.bits))

-- the checks of the paths, in their order
unfoldable pub decode_path_checks : Frame → List Check
decode_path_checks f = NoPath unless both_walked f ∷ ForcedPosition unless both_free f ∷ []

-- all checks of a call
unfoldable pub decode_checks : DecodeCall → DecodeLent → List Check
decode_checks c l = decode_lent_checks c l ++ decode_path_checks c.frame

-- the reply, and every list as the decoder leaves it
pub record DecodeResult : Type 0 where
  pub reply : Reply
  pub lists : DecodeLent

-- what a reply leaves of the lists. An unsent value is received as 0. Position i of the last pass 2 is message position pattern(i)
unfoldable pub decode_settled : Reply → DecodeCall → DecodeLent → DecodeResult
decode_settled r c l =
    let f = c.frame in
    let s = decoded_pass f (spread (pos 0) (flags f) c.received) c.iterations in
    record {
      reply = r;
      lists = record {
        bits = after r (deinterleave 0 f.pattern (map decided s.margins)) l.bits;
        margins = after r (deinterleave (pos 0) f.pattern s.margins) l.margins;
        extrinsics = after r (deinterleave (pos 0) f.pattern s.extrinsics) l.extrinsics;
        work = cleared r l.work;
      };
    }

unfoldable pub decode : DecodeCall → DecodeLent → DecodeResult
decode c l = decode_settled (first_of (decode_checks c l)) c l
