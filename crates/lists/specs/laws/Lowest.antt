-- The lowest number that passes a test: of the numbers below n that pass it, the head of their listing; and there is none exactly where none passes.
-- Assumes nothing.
use Rattle.std.specs.Prelude.{◌≡◌, ◌↔◌, ◌⊎◌, Bool, true, false}
use Rattle.std.proofs.Math.Path.{refl, ap}
use Rattle.std.proofs.Common.{sym, ◌∙◌, inl, inr, arith}
use mathlib.Core.List.{List, [], ◌∷◌, ◌++◌, head?}
use Rattle.std.proofs.Math.Option.{Option, none, some, some-injective, none-ne-some, some-ne-none}
use Prim.Native.Nat.{ℕ, zero, suc, ◌<◌}
use Rattle.std.proofs.Math.Decide.{ℕ_discrete}
use Rattle.lists.specs.Lists.{listed, keep, upto}
use Rattle.lists.specs.laws.Keep.{keep_append}

-- s is below n and passes the test, and none lower does
pub record IsLowest (f : ℕ → Bool) (n s : ℕ) : Type 0 where
  pub inside : s < n
  pub passes : f s ≡ true
  pub lower : (r : ℕ) → r < s → f r ≡ false

head_before : {A : Type 0} (xs ys : List A) (x : A) → head? xs ≡ some x → head? (xs ++ ys) ≡ some x
head_before [] ys x e = absurd (none-ne-some x e)
head_before (y ∷ xs) ys x e = e

module _ (f : ℕ → Bool) where
  none_kept : (n : ℕ) → ((r : ℕ) → r < n → f r ≡ false) → keep f (upto n) ≡ []
  unfolding keep upto listed
  none_kept zero h = refl
  none_kept (suc n) h = keep_append f (upto n) (n ∷ []) ∙ rw (none_kept n (λ r l. h r (omega arith)), h n (omega arith))

  lowest_kept : (n s : ℕ) → IsLowest f n s → head? (keep f (upto n)) ≡ some s
  unfolding keep upto listed
  lowest_kept zero s w = absurd (omega (arith, w.inside))
  lowest_kept (suc n) s w = ap head? (keep_append f (upto n) (n ∷ [])) ∙ elim (ℕ_discrete s n) [
    | yes e ↦ rw (none_kept n (λ r h. w.lower r (omega arith)), rw e at w.passes) (ap {B = Option ℕ} some (sym e))
    | no d ↦
        head_before (keep f (upto n)) (keep f (n ∷ [])) s
        (lowest_kept n s (record { inside = omega (arith, w.inside); passes = w.passes; lower = w.lower }))
  ]

  -- either there is a lowest or none passes
  looked_for : (n : ℕ) → ((s : ℕ) × IsLowest f n s) ⊎ ((r : ℕ) → r < n → f r ≡ false)
  looked_for zero = inr (λ r l. absurd (omega arith))
  looked_for (suc n) = more (looked_for n) (f n) refl
    where
      more : ((s : ℕ) × IsLowest f n s) ⊎ ((r : ℕ) → r < n → f r ≡ false) → (b : Bool) → f n ≡ b →
          ((s : ℕ) × IsLowest f (suc n) s) ⊎ ((r : ℕ) → r < suc n → f r ≡ false)
      more (inl (s, w)) b e = inl (s, record { inside = omega (arith, w.inside); passes = w.passes; lower = w.lower })
      more (inr h) true e = inl (n, record { inside = omega arith; passes = e; lower = h })
      more (inr h) false e = inr (λ r l. elim (ℕ_discrete r n) [ yes q ↦ rw q e | no d ↦ h r (omega arith) ])

  pub lowest_exactly : (n s : ℕ) → (head? (keep f (upto n)) ≡ some s) ↔ IsLowest f n s
  lowest_exactly n s = (go (looked_for n), lowest_kept n s)
    where
      go : ((s : ℕ) × IsLowest f n s) ⊎ ((r : ℕ) → r < n → f r ≡ false) → head? (keep f (upto n)) ≡ some s → IsLowest f n s
      go (inl (r, w)) e = let same : s ≡ r = some-injective s r (sym e ∙ lowest_kept n r w) in rw same w
      go (inr h) e = absurd (none-ne-some s (sym (ap head? (none_kept n h)) ∙ e))

  pub lowest_none : (n : ℕ) → (head? (keep f (upto n)) ≡ none) ↔ ((r : ℕ) → r < n → f r ≡ false)
  lowest_none n = (go (looked_for n), λ h. ap head? (none_kept n h))
    where
      go : ((s : ℕ) × IsLowest f n s) ⊎ ((r : ℕ) → r < n → f r ≡ false) → head? (keep f (upto n)) ≡ none → (r : ℕ) → r < n → f r ≡ false
      go (inl (s, w)) e = absurd (some-ne-none s (sym (lowest_kept n s w) ∙ e))
      go (inr h) e = h
