-- A row as a loop over the wings fills it: two entries more, side by side or one in each half.
-- Assumes nothing.
use mathlib.Core.Path.{◌≡◌, refl}
use mathlib.Core.Bool.{Bool, true, false, cond}
use mathlib.Core.List.{List}
use mathlib.Core.Option.{Option}
use Prim.Native.Nat.{ℕ, ◌+◌, ◌*◌, ◌-◌, ◌<◌}
use native.Mathlib.Decide.{dec_lt}
use native.Mathlib.Numerals.{add-one}
use native.Mathlib.Omega.{arith}
use lib.IntN.{ℤ, pos}
use lib.ListN.{length, get_or, set, length-set}
use lib.Seq.{get_or-set_same, get_or-set_other}
use borrow.Author.Count.{below_more}
use Rattle.trellis.specs.Outcome.{larger}
use Rattle.trellis.specs.laws.Over.{over, over_suc}
use Rattle.metrics.specs.Words.{held}

-- two entries at different places
module _ (xs : List ℤ) (a b : ℕ) (y z : ℤ) where
  abbrev both : List ℤ
  both = set (set xs a y) b z

  second : b < length xs → get_or both b (pos 0) ≡ z
  second inside = get_or-set_same (set xs a y) b z (pos 0) (simp length-set inside)

  first : (a ≡ b → ⊥) → a < length xs → get_or both a (pos 0) ≡ y
  first apart inside = rw (get_or-set_other (set xs a y) b a z (pos 0) apart, get_or-set_same xs a y (pos 0) inside)

  other : (s : ℕ) → (s ≡ a → ⊥) → (s ≡ b → ⊥) → get_or both s (pos 0) ≡ get_or xs s (pos 0)
  other s not_a not-b = rw (get_or-set_other (set xs a y) b s z (pos 0) not-b, get_or-set_other xs a s y (pos 0) not_a)

module _ (P : ℕ → ℤ → Type 0) (xs : List ℤ) (i : ℕ) (y z : ℤ) where
  -- entries 2·i and 2·i + 1
  pub side_by_side :
      2 * i + 1 < length xs → ((s : ℕ) → s < 2 * i → P s (get_or xs s (pos 0))) → P (2 * i) y → P (2 * i + 1) z
      → (s : ℕ) → s < 2 * (i + 1) → P s (get_or (set (set xs (2 * i) y) (2 * i + 1) z) s (pos 0))
  side_by_side inside before even odd s l =
      below_more Q (2 * i + 1)
      (below_more Q (2 * i)
      (λ s l. rw (other xs (2 * i) (2 * i + 1) y z s (λ e. omega arith) (λ e. omega arith)) (before s l))
      (rw (first xs (2 * i) (2 * i + 1) y z (λ e. omega arith) (omega arith)) even))
      (rw (second xs (2 * i) (2 * i + 1) y z inside) odd)
      s (omega arith)
    where
      Q : ℕ → Type 0
      Q s = P s (get_or (set (set xs (2 * i) y) (2 * i + 1) z) s (pos 0))

  -- entries i and i + half
  module _ (half : ℕ) (in-half : i < half) (inside : i + half < length xs) where
    pub near_more :
        ((s : ℕ) → s < i → P s (get_or xs s (pos 0))) → P i y
        → (s : ℕ) → s < i + 1 → P s (get_or (set (set xs i y) (i + half) z) s (pos 0))
    near_more before at_i =
        below_more (λ s. P s (get_or (set (set xs i y) (i + half) z) s (pos 0))) i
        (λ s l. rw (other xs i (i + half) y z s (λ e. omega arith) (λ e. omega arith)) (before s l))
        (rw (first xs i (i + half) y z (λ e. omega arith) (omega arith)) at_i)

    pub far_more :
        ((s : ℕ) → s < i → P (s + half) (get_or xs (s + half) (pos 0))) → P (i + half) z
        → (s : ℕ) → s < i + 1 → P (s + half) (get_or (set (set xs i y) (i + half) z) (s + half) (pos 0))
    far_more before at-far =
        below_more (λ s. P (s + half) (get_or (set (set xs i y) (i + half) z) (s + half) (pos 0))) i
        (λ s l. rw (other xs i (i + half) y z (s + half) (λ e. omega arith) (λ e. omega arith)) (before s l))
        (rw (second xs i (i + half) y z inside) at-far)

-- what holds in each half
pub both_halves :
    {half : ℕ} (P : ℕ → Type 0) → ((s : ℕ) → s < half → P s) → ((s : ℕ) → s < half → P (s + half)) → (s : ℕ) → s < half + half → P s
both_halves {half} P near far s l = elim (dec_lt s half) [
  | yes h ↦ near s h
  | no h ↦ let e : s - half + half ≡ s = omega arith in rw e at (far (s - half) (omega arith))
]

pub over_more : (n : ℕ) (f : ℕ → Option ℤ) → over (n + 1) f ≡ larger (over n f) (f n)
over_more n f = rw add-one (over_suc n f)

pub held_cond : (t : Bool) (a b : ℤ) → held (cond t a b) ≡ cond t (held a) (held b)
held_cond true a b = refl
held_cond false a b = refl
