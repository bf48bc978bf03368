-- One more state: what the steps over a section have gathered of the first s states, and of one more.
-- Assumes nothing.
use mathlib.Core.Path.{◌≡◌, sym, ap, ◌∙◌}
use mathlib.Core.List.{List}
use mathlib.Core.Option.{Option, none, some}
use Prim.Native.Nat.{ℕ, ◌+◌, ◌<◌}
use native.Mathlib.Numerals.{add-one}
use lib.IntN.{ℤ}
use lib.ListN.{length, set}
use Rattle.trellis.specs.laws.MaxPlus.{plus, larger_assoc}
use Rattle.trellis.specs.Outcome.{larger}
use Rattle.trellis.specs.laws.Over.{over, over_zero, over_suc}
use Rattle.trellis.specs.laws.Sweeps.{Row, arriving, advance}
use Rattle.metrics.specs.Words.{held, row}
use Rattle.siso.proofs.Rows.{offered}

pub over_more : (n : ℕ) (f : ℕ → Option ℤ) → over (n + 1) f ≡ larger (over n f) (f n)
over_more n f = rw add-one (over_suc n f)

module _ (target : ℕ → ℕ → ℕ) (branch-metric : ℕ → ℕ → ℤ) (x : Row) where
  pub advance_none : (r : ℕ) → advance target branch-metric 0 x r ≡ none
  unfolding advance
  advance_none r = over_zero _

  advance_more :
      (s r : ℕ)
      → advance target branch-metric (s + 1) x r
      ≡ larger (larger (advance target branch-metric s x r) (arriving target branch-metric x r s 0)) (arriving target branch-metric x r s 1)
  unfolding advance
  advance_more s r = over_more s _ ∙ sym (larger_assoc _ _ _)

  -- the larger of what a state has and of what a branch brings, written where the branch leads
  arrived :
      (out : List ℤ) (s b t : ℕ) (y : ℤ) → t ≡ target s b → t < length out
      → held y ≡ larger (row out t) (plus (x s) (some (branch-metric s b)))
      → (r : ℕ) → row (set out t y) r ≡ larger (row out r) (arriving target branch-metric x r s b)
  unfolding arriving
  arrived out s b t y to inside e r = offered out t _ y inside e r ∙ rw to

  -- one more state: both its branches
  pub advanced :
      (out : List ℤ) (s r t₀ t₁ : ℕ) (y₀ y₁ : ℤ) → row out r ≡ advance target branch-metric s x r
      → t₀ ≡ target s 0 → t₀ < length out
      → held y₀ ≡ larger (row out t₀) (plus (x s) (some (branch-metric s 0)))
      → t₁ ≡ target s 1 → t₁ < length (set out t₀ y₀)
      → held y₁ ≡ larger (row (set out t₀ y₀) t₁) (plus (x s) (some (branch-metric s 1)))
      → row (set (set out t₀ y₀) t₁ y₁) r ≡ advance target branch-metric (s + 1) x r
  advanced out s r t₀ t₁ y₀ y₁ before to₀ inside₀ e₀ to₁ inside₁ e₁ =
      rw (advance_more s r, ← before)
      (arrived (set out t₀ y₀) s 1 t₁ y₁ to₁ inside₁ e₁ r
      ∙ ap (λ z. larger z (arriving target branch-metric x r s 1)) (arrived out s 0 t₀ y₀ to₀ inside₀ e₀ r))
