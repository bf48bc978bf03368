-- A coded frame as the decoder has it, every value in its place and none of the wrong sign: then each pass's channel values agree with the path of
-- its coder.
-- Assumes nothing.
use Rattle.std.specs.Prelude.{◌≡◌, refl, List, ℕ, zero, suc, ◌+◌, ◌*◌, ◌-◌, ◌<◌, ℤ, pos, ◌≤ℤ◌}
use Rattle.std.proofs.Math.Path.{sym, ap}
use Rattle.std.proofs.Common.{◌∙◌, add-zero, arith}
use Rattle.std.proofs.Math.Decide.{dec_lt}
use Rattle.std.proofs.Math.ListN.{get_or, get_or-append}
use Rattle.trellis.specs.Table.{output}
use Rattle.trellis.specs.declared.End.{End}
use Rattle.trellis.specs.Path.{TrellisPath, signed}
use Rattle.trellis.specs.Best.{IsPath}
use Rattle.frame.specs.Interleaver.{interleave}
use Rattle.frame.proofs.laws.Interleaving.{interleave_at}
use Rattle.frame.specs.Frame.{Frame, sections_of, tail_of, tail1, tail2, sections1, sections2}
use Rattle.coder.specs.Coder.{places}
use Rattle.decoder.specs.Decoder.{channel1, channel2}
use Rattle.frame.proofs.laws.Checked.{Framed}
use Rattle.frame.proofs.laws.Checked.{checked}
use Rattle.decoder.specs.laws.Channels.{channel1_systematic, channel1_parity, channel1_tail, channel2_systematic, channel2_parity, channel2_tail}
use Rattle.demands.specs.Coded.{IsCoderPath}
use Rattle.demands.proofs.laws.Outputs.{word_at, first_output, place_1, place_2, tail_place_1, tail_place_2}

-- r has a value for every place of a frame for the message, and none has the wrong sign
pub record HasRightPlaces (f : Frame) (message : List ℕ) (r : List ℤ) : Type 0 where
  pub framed : Framed f
  pub first : TrellisPath
  pub second : TrellisPath
  pub first_coder : IsCoderPath f f.first message first
  pub second_coder : IsCoderPath f f.second (interleave 0 f.pattern message) second
  pub signs : (i : ℕ) → pos 0 ≤ℤ signed (get_or (places f first second) i 0) (get_or r i (pos 0))

-- the channel values of a pass have the signs of the outputs along a path
pub record ChannelAgrees (f : Frame) (end : End) (path : TrellisPath) (channel : List ℤ) : Type 0 where
  pub agrees : (k l : ℕ) → k < sections_of f end → l < 2 → pos 0 ≤ℤ signed (output (word_at f.table path k) l) (get_or channel (2 * k + l) (pos 0))

-- a coder's own inputs are the first of its path
module _ {f : Frame} {end : End} {inputs : List ℕ} {path : TrellisPath} (coder : IsCoderPath f end inputs path) where
  pub input_at : (k : ℕ) → k < f.bits → get_or path.bits k 0 ≡ get_or inputs k 0
  input_at k h = rw coder.whole (get_or-append inputs coder.tail 0 k (omega (arith, coder.own.size)))

-- an output at a position, or at section j of the tail
sections_agree : (f : Frame) (end : End) (path : TrellisPath) (channel : List ℤ) →
    ((k : ℕ) → k < f.bits → pos 0 ≤ℤ signed (output (word_at f.table path k) 0) (get_or channel (2 * k) (pos 0))) →
    ((k : ℕ) → k < f.bits → pos 0 ≤ℤ signed (output (word_at f.table path k) 1) (get_or channel (2 * k + 1) (pos 0))) →
    ((j l : ℕ) → j < tail_of end f.tail → l < 2 →
    pos 0 ≤ℤ signed (output (word_at f.table path (f.bits + j)) l) (get_or channel (2 * f.bits + (2 * j + l)) (pos 0))) →
    ChannelAgrees f end path channel
sections_agree f end path channel systematic parity tail = record {
  agrees = λ k l h g. elim (dec_lt k f.bits) [ yes here ↦ position k l here g | no here ↦ after k (k - f.bits) l (omega arith) (omega arith) g ];
}
  where
    position : (k l : ℕ) → k < f.bits → l < 2 → pos 0 ≤ℤ signed (output (word_at f.table path k) l) (get_or channel (2 * k + l) (pos 0))
    position k zero h g = rw (add-zero (2 * k)) (systematic k h)
    position k (suc zero) h g = parity k h
    position k (suc (suc l)) h g = absurd (omega arith)

    after : (k j l : ℕ) → k ≡ f.bits + j → j < tail_of end f.tail → l < 2 →
        pos 0 ≤ℤ signed (output (word_at f.table path k) l) (get_or channel (2 * k + l) (pos 0))
    after k j l e h g = let place : 2 * k + l ≡ 2 * f.bits + (2 * j + l) = omega arith in rw (place, e) (tail j l h g)

module _ {f : Frame} {message : List ℕ} {r : List ℤ} (correct : HasRightPlaces f message r) where
  abbrev p : TrellisPath
  p = correct.first

  abbrev q : TrellisPath
  q = correct.second

  first_path : IsPath f.table f.first (sections1 f) p
  unfolding sections1 tail1
  first_path = correct.first_coder.is_path

  second_path : IsPath f.table f.second (sections2 f) q
  unfolding sections2 tail2
  second_path = correct.second_coder.is_path

  -- the values of a position, and those of section j of a tail
  position_1 : (k l : ℕ) → k < f.bits → l < 2 → pos 0 ≤ℤ signed (output (word_at f.table p k) l) (get_or r (3 * k + l) (pos 0))
  position_1 k l h g = rw (place_1 f correct.framed p q first_path second_path k l h g) at (correct.signs (3 * k + l))

  systematic_1 : (k : ℕ) → k < f.bits → pos 0 ≤ℤ signed (output (word_at f.table p k) 0) (get_or r (3 * k) (pos 0))
  systematic_1 k h = rw (add-zero (3 * k)) at (position_1 k 0 h (omega arith))

  tail_1 : (j l : ℕ) → j < tail1 f → l < 2 →
      pos 0 ≤ℤ signed (output (word_at f.table p (f.bits + j)) l) (get_or r (3 * f.bits + (2 * j + l)) (pos 0))
  tail_1 j l h g = rw (tail_place_1 f correct.framed p q first_path second_path j l h g) at (correct.signs (3 * f.bits + (2 * j + l)))

  parity_2 : (k : ℕ) → k < f.bits → pos 0 ≤ℤ signed (output (word_at f.table q k) 1) (get_or r (3 * k + 2) (pos 0))
  parity_2 k h = rw (place_2 f correct.framed p q first_path second_path k h) at (correct.signs (3 * k + 2))

  tail_2 : (j l : ℕ) → j < tail2 f → l < 2 →
      pos 0 ≤ℤ signed (output (word_at f.table q (f.bits + j)) l) (get_or r (3 * f.bits + 2 * tail1 f + (2 * j + l)) (pos 0))
  tail_2 j l h g =
      rw (tail_place_2 f correct.framed p q first_path second_path j l h g) at (correct.signs (3 * f.bits + 2 * tail1 f + (2 * j + l)))

  -- the second coder's input k is message bit pattern(k), which is the first coder's input there
  same_input : (k i : ℕ) → k < f.bits → get_or f.pattern k 0 ≡ i → i < f.bits →
      output (word_at f.table q k) 0 ≡ output (word_at f.table p i) 0
  unfolding sections1 sections2 tail1 tail2
  same_input k i h e below =
      first_output f correct.framed q second_path k (omega arith)
      ∙ input_at correct.second_coder k h
      ∙ interleave_at 0 f.bits f.pattern (checked f correct.framed).permutes message k h
      ∙ ap (λ (j : ℕ). get_or message j 0) e
      ∙ sym (input_at correct.first_coder i below)
      ∙ sym (first_output f correct.framed p first_path i (omega arith))

  systematic_2 : (k : ℕ) → k < f.bits → pos 0 ≤ℤ signed (output (word_at f.table q k) 0) (get_or r (3 * get_or f.pattern k 0) (pos 0))
  systematic_2 k h =
      let below = (checked f correct.framed).permutes.below k h in
      rw (same_input k (get_or f.pattern k 0) h refl below) (systematic_1 (get_or f.pattern k 0) below)

  pub first_agrees : ChannelAgrees f f.first p (channel1 f r)
  unfolding channel1 tail1 tail2
  first_agrees =
      sections_agree f f.first p (channel1 f r)
      (λ k h. rw (channel1_systematic f.pattern f.bits (tail1 f) (tail2 f) r k h) (systematic_1 k h))
      (λ k h. rw (channel1_parity f.pattern f.bits (tail1 f) (tail2 f) r k h) (position_1 k 1 h (omega arith)))
      (λ j l h g. rw (channel1_tail f.pattern f.bits (tail1 f) (tail2 f) r (2 * j + l) (omega arith)) (tail_1 j l h g))

  pub second_agrees : ChannelAgrees f f.second q (channel2 f r)
  unfolding channel2 tail1 tail2
  second_agrees =
      sections_agree f f.second q (channel2 f r)
      (λ k h. rw (channel2_systematic f.pattern f.bits (tail1 f) (tail2 f) r k h) (systematic_2 k h))
      (λ k h. rw (channel2_parity f.pattern f.bits (tail1 f) (tail2 f) r k h) (parity_2 k h))
      (λ j l h g. rw (channel2_tail f.pattern f.bits (tail1 f) (tail2 f) r (2 * j + l) (omega arith)) (tail_2 j l h g))
