-- The checks of a call's lists and of what they hold, by the definitions.
-- Assumes nothing.
use Rattle.std.specs.Prelude.{◌≡◌, true, not, ◌&&◌, ◌||◌, Bool, List, [], ◌∷◌, ℕ, ◌+◌, ◌≤◌, eqb, leb, ltb, length}
use Rattle.std.proofs.Common.{arith, eqb-true, le-leb}
use Rattle.lists.specs.Lists.{every}
use Rattle.lists.specs.laws.Tests.{and_both}
use Rattle.refusal.specs.declared.Refusal.TheVariants.{Bit, Pattern, Mask, Coder}
use Rattle.refusal.specs.Refusals.{Reply, ◌unless◌, first_of}
use Rattle.frame.specs.Frame.{Frame, tail_of, tail1, tail2, good_sizes, good_masks, good_coder, length_under, sizes_fit, masks_fit, codes, frame_length}
use Rattle.frame.specs.Interleaver.{permutes}
use Rattle.frame.proofs.laws.Checked.{sizes_small}
use Rattle.coder.specs.Coder.{encode_lists_fit}

module _ (f : Frame) (message sent : List ℕ) (sizes : sizes_fit f ≡ true) where
  -- the sizes are tested again where the frame is measured, and pass
  pub measured : {b : Bool} →
      b ≡ (eqb (length f.pattern) f.bits
      && eqb (length message) f.bits
      && (good_sizes f.bits f.tail
      && (not (good_masks f.masks) || eqb (length sent) (length_under f.masks f.bits (tail_of f.first f.tail + tail_of f.second f.tail))))) →
      b ≡ encode_lists_fit (record { frame = f; message = message }) sent
  unfolding encode_lists_fit masks_fit frame_length tail1 tail2 sizes_fit
  measured e = rw sizes at e

  -- what the lists hold, where they fit
  pub entries : {x : Reply} → encode_lists_fit (record { frame = f; message = message }) sent ≡ true →
      x ≡ first_of
      (Bit unless every (λ b. ltb b 2) message
      ∷ Pattern unless (leb (length f.pattern) 4096 && permutes (length f.pattern) f.pattern)
      ∷ Mask unless good_masks f.masks
      ∷ Coder unless good_coder f.table
      ∷ []) →
      x ≡ first_of
      (Bit unless every (λ b. ltb b 2) message
      ∷ Pattern unless permutes f.bits f.pattern
      ∷ Mask unless masks_fit f
      ∷ Coder unless codes f
      ∷ [])
  unfolding encode_lists_fit masks_fit codes sizes_fit
  entries fit e =
      let (inputs, measure) = and_both _ _ fit in
      let long : length f.pattern ≡ f.bits = eqb-true _ _ (and_both _ _ inputs).0 in
      let few : f.bits ≤ 4096 = omega (arith, (sizes_small f.bits f.tail sizes).1) in
      rw (long, le-leb f.bits 4096 few) at e
