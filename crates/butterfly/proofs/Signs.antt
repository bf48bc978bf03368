-- The signs of the two constants are signs.
-- Assumes nothing.
use mathlib.Core.Path.{refl}
use mathlib.Core.Logic.{inl, inr}
use Prim.Native.Nat.{ℕ, zero, suc, ◌+◌, ◌<◌}
use native.Mathlib.Omega.{arith}
use lib.IntN.{pos}
use lib.ListN.{get_or}
use Rattle.butterfly.specs.laws.Metrics.{IsSign, Signs, house_signs, gpp_signs}

pub house_signs_lem : Signs 2 house_signs
house_signs_lem = record { input = inputs; parity = parities }
  where
    inputs : (i : ℕ) → i < 2 → IsSign (get_or house_signs i (pos 0))
    inputs zero l = inl refl
    inputs (suc zero) l = inr refl
    inputs (suc (suc i)) l = absurd (omega arith)

    parities : (i : ℕ) → i < 2 → IsSign (get_or house_signs (8 + i) (pos 0))
    parities zero l = inl refl
    parities (suc zero) l = inl refl
    parities (suc (suc i)) l = absurd (omega arith)

pub gpp_signs_lem : Signs 4 gpp_signs
gpp_signs_lem = record { input = inputs; parity = parities }
  where
    inputs : (i : ℕ) → i < 4 → IsSign (get_or gpp_signs i (pos 0))
    inputs zero l = inl refl
    inputs (suc zero) l = inl refl
    inputs (suc (suc zero)) l = inr refl
    inputs (suc (suc (suc zero))) l = inr refl
    inputs (suc (suc (suc (suc i)))) l = absurd (omega arith)

    parities : (i : ℕ) → i < 4 → IsSign (get_or gpp_signs (8 + i) (pos 0))
    parities zero l = inl refl
    parities (suc zero) l = inr refl
    parities (suc (suc zero)) l = inl refl
    parities (suc (suc (suc zero))) l = inr refl
    parities (suc (suc (suc (suc i)))) l = absurd (omega arith)
