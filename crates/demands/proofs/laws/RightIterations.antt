-- The iterations over a coded frame none of whose values has the wrong sign: what each pass is handed leans towards its coder's inputs, so the
-- last margins tell the message, however many iterations there are.
-- Assumes nothing.
use Rattle.std.specs.Prelude.{◌≡◌, ◌≢◌, false, List, map, ℤ, pos, get_or}
use Rattle.std.proofs.Common.{ap, ◌∙◌}
use Prim.Native.Nat.{ℕ, zero, suc, ◌*◌, ◌-◌, ◌<◌}
use Rattle.trellis.specs.Outcome.{forced}
use Rattle.frame.specs.Interleaver.{interleave, deinterleave}
use Rattle.frame.specs.laws.Interleaving.{Permutes}
use Rattle.frame.proofs.laws.Interleaving.{deinterleave_undoes}
use Rattle.frame.specs.Frame.{Frame, sections_of, tail1, tail2}
use Rattle.soft.specs.Soft.{decided}
use Rattle.decoder.specs.Decoder.{channel1, channel2, hand_on, hand_back, handed_on, iteration, prior_after, last_pass, decoded_pass}
use Rattle.frame.proofs.laws.Checked.{checked}
use Rattle.decoder.specs.laws.Channels.{channel2_systematic}
use Rattle.demands.proofs.laws.RightPlaces.{HasRightPlaces, first_agrees, second_agrees}
use Rattle.demands.proofs.laws.Leaning.{Leans, Tells, zeros_lean, handed_leans, decided_all, interleaved_leans, deinterleaved_leans}
use Rattle.demands.proofs.laws.Passes.{extrinsics_lean, margins_tell}

module _ {f : Frame} {message : List ℕ} {r : List ℤ} (correct : HasRightPlaces f message r) where
  -- the second coder's inputs
  abbrev interleaved : List ℕ
  interleaved = interleave 0 f.pattern message

  permuted : Permutes f.bits f.pattern
  permuted = (checked f correct.framed).permutes

  module _ {a : List ℤ} (told : Leans f.bits message a) where
    handed_on_lem : Leans f.bits interleaved (handed_on f (channel1 f r) a)
    unfolding handed_on hand_on
    handed_on_lem =
        interleaved_leans permuted (handed_leans (extrinsics_lean f correct.framed correct.first_coder (first_agrees correct) told))

    handed_back : Leans f.bits message (hand_back f (iteration f (channel1 f r) (channel2 f r) a))
    unfolding hand_back iteration
    handed_back =
        deinterleaved_leans permuted (handed_leans (extrinsics_lean f correct.framed correct.second_coder (second_agrees correct) handed_on_lem))

  prior_leans : {a : List ℤ} → Leans f.bits message a → (i : ℕ) → Leans f.bits message (prior_after f (channel1 f r) (channel2 f r) a i)
  unfolding prior_after
  prior_leans told zero = told
  prior_leans told (suc i) = handed_back (prior_leans told i)

  module _ (free : (k : ℕ) → k < f.bits → forced f.table f.second (sections_of f f.second) k ≡ false) (told : (k : ℕ) → k < f.bits → get_or r (3 * k) (pos 0) ≢ pos 0)
      (n : ℕ) where
    margins_tell_message : Tells f.bits interleaved (decoded_pass f r n).margins
    unfolding last_pass iteration channel2
    margins_tell_message =
        margins_tell f correct.framed correct.second_coder (second_agrees correct) (handed_on_lem (prior_leans (zeros_lean f.bits message) (n - 1))) free
        (λ k h. rw (channel2_systematic f.pattern f.bits (tail1 f) (tail2 f) r k h) (told (get_or f.pattern k 0) (permuted.below k h)))

    pub bits_are_the_message : deinterleave 0 f.pattern (map decided (decoded_pass f r n).margins) ≡ message
    bits_are_the_message =
        ap (λ (l : List ℕ). deinterleave 0 f.pattern l) (decided_all correct.second_coder.own.size (λ k h. correct.second_coder.own.bit k) margins_tell_message)
        ∙ deinterleave_undoes 0 f.bits f.pattern permuted message correct.first_coder.own.size
