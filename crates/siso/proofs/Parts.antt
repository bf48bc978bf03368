-- What the parts of a branch's metric go by: the sign of a bit, and sums of small numbers.
-- Assumes nothing.
use Rattle.std.specs.Prelude.{◌≡◌, refl, ◌≢◌, List, [], ◌∷◌, ℕ, zero, suc, ℤ, pos, neg_ℤ, ◌+ℤ◌}
use Rattle.std.proofs.Common.{arith, SFits, to_z, of_z, to_z-of_z}
use Rattle.std.specs.Int.{w32}
use Rattle.integers.specs.laws.Bounds.{Within}
use Rattle.integers.specs.laws.Linear.{ints}
use Rattle.trellis.specs.Path.{signed}
use Rattle.trellis.proofs.laws.Signs.{signed_within}

-- 0 counts against
pub against : (b : ℕ) (x : ℤ) → b ≡ 0 → signed b x ≡ neg_ℤ x
unfolding signed
against b x e = rw e

pub for : (b : ℕ) (x : ℤ) → b ≢ 0 → signed b x ≡ x
unfolding signed
for zero x h = absurd (h refl)
for (suc b) x h = refl

pub neg_fits : (z : ℤ) → Within 8191 z → SFits w32 (neg_ℤ z)
neg_fits z = simp ints (omega arith)

-- a branch's metric fits, and so does a word's
pub metric_fits : (b : ℕ) (a g : ℤ) → Within 8191 a → Within 4092 g → SFits w32 (signed b a +ℤ g)
metric_fits b a g h k = fits (signed b a) g (signed_within b h) k
  where
    fits : (x y : ℤ) → Within 8191 x → Within 4092 y → SFits w32 (x +ℤ y)
    fits x y = simp ints (omega arith)

pub output_fits : (b : ℕ) (g y : ℤ) → Within 3069 g → Within 1023 y → SFits w32 (g +ℤ signed b y)
output_fits b g y h k = fits g (signed b y) h (signed_within b k)
  where
    fits : (x y : ℤ) → Within 3069 x → Within 1023 y → SFits w32 (x +ℤ y)
    fits x y = simp ints (omega arith)

-- and a channel value
pub value_fits : {y : ℤ} → Within 1023 y → SFits w32 y
value_fits {y} = simp ints (omega arith)

pub zero_fits : SFits w32 (pos 0)
zero_fits = simp ints (omega arith)

-- four values as locals hold them
pub kept_four :
    (P : List ℤ → Type 0) (a b c d : ℤ) → SFits w32 a → SFits w32 b → SFits w32 c → SFits w32 d → P (a ∷ b ∷ c ∷ d ∷ [])
    → P (to_z w32 (of_z w32 a) ∷ to_z w32 (of_z w32 b) ∷ to_z w32 (of_z w32 c) ∷ to_z w32 (of_z w32 d) ∷ [])
kept_four P a b c d e f g h p = rw (to_z-of_z e, to_z-of_z f, to_z-of_z g, to_z-of_z h) p

pub ruleset signs = (to_z-of_z, against, for, neg_fits)

pub ruleset sums = (to_z-of_z, metric_fits, output_fits)
