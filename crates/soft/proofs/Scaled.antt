-- Three quarters of an extrinsic as the code has them: in the wider type three times the extrinsic fits, and so does a quarter of that. Once it is
-- limited, it is what is handed over, and fits the narrow type.
-- Assumes nothing.
use Rattle.std.specs.Prelude.{◌≡◌, refl, Bool, true, false, cond, ℤ, pos, ◌*ℤ◌}
use Rattle.std.proofs.Common.{◌∙◌, arith, SFits, to_z, of_z, to_z-of_z}
use Rattle.std.proofs.Math.IntN.{negsuc}
use Rattle.std.proofs.Math.Facts.{sfits_widen}
use Rattle.std.specs.Int.{w16, w32, w64, int_max, int_min}
use Rattle.std.specs.Int.Signed.{lt_z, quot_z}
use Rattle.integers.specs.Integers.{limited}
use Rattle.integers.specs.laws.Linear.{ints, plain}
use Rattle.trellis.specs.Limits.{apriori_limit}
use Rattle.soft.specs.Soft.{hand_over}

-- what the wider type holds of a 32-bit number
module _ {e : ℤ} (f : SFits w32 e) where
  abbrev wide : SFits w64 e
  wide = sfits_widen tt f

  abbrev tripled : SFits w64 (pos 3 *ℤ e)
  tripled = simp ints (omega (arith, simp ints at f))

  abbrev quartered : SFits w64 (quot_z (pos 3 *ℤ e) (pos 4))
  quartered = simp ints (omega (arith, simp ints at f))

ruleset read = (plain, wide, tripled, quartered)

abbrev scaled : ℤ → ℤ
scaled e = to_z w64 (of_z w64 (quot_z (to_z w64 (of_z w64 (pos 3 *ℤ to_z w64 (of_z w64 (to_z w32 (of_z w32 e)))))) (pos 4)))

-- `clamp` is the definition's limit
clamped_is : (z : ℤ) → int_max (negsuc 8190) (int_min z (pos 8191)) ≡ limited apriori_limit z
clamped_is z = above (lt_z (pos 8191) z) refl
  where
    below : (t : Bool) → lt_z (pos 8191) z ≡ false → lt_z z (negsuc 8190) ≡ t → cond t (negsuc 8190) z ≡ limited apriori_limit z
    below true g h = simp ints (omega (arith, simp ints at g, simp ints at h))
    below false g h = simp ints (omega (arith, simp ints at g, simp ints at h))

    above : (t : Bool) → lt_z (pos 8191) z ≡ t → int_max (negsuc 8190) (cond t (pos 8191) z) ≡ limited apriori_limit z
    above true h = simp ints (omega (arith, simp ints at h))
    above false h = below (lt_z z (negsuc 8190)) h refl

pub handed_is : {e r n : ℤ} → SFits w32 e → n ≡ to_z w32 (of_z w32 e) →
    r ≡ int_max (negsuc 8190) (int_min (to_z w64 (of_z w64 (quot_z (to_z w64 (of_z w64 (pos 3 *ℤ to_z w64 (of_z w64 n)))) (pos 4)))) (pos 8191)) →
    to_z w16 (of_z w16 (to_z w64 (of_z w64 r))) ≡ hand_over e
unfolding hand_over
handed_is {e} {r} f from is =
    let q : scaled e ≡ quot_z (pos 3 *ℤ e) (pos 4) = simp read in
    let clamped : r ≡ limited apriori_limit (quot_z (pos 3 *ℤ e) (pos 4)) = is ∙ rw (from, q) (clamped_is _) in
    let narrow : SFits w16 (limited apriori_limit (quot_z (pos 3 *ℤ e) (pos 4))) = simp ints (omega arith) in
    rw (clamped, to_z-of_z (sfits_widen tt narrow), to_z-of_z narrow) refl
