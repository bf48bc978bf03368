-- The greatest over the states of a table, half of them at a time: where only two of them have a metric, and by pairs of one from each half.
-- Assumes nothing.
use Rattle.std.specs.Prelude.{◌≡◌, Bool, cond, ℕ, zero, suc, ◌+◌, ◌<◌, ℤ}
use Rattle.std.proofs.Math.Path.{refl, sym, ap₂}
use Rattle.std.proofs.Common.{ap, ◌∙◌, add-zero, add-suc, add_comm, arith}
use Rattle.std.proofs.Math.Bool.{true, false}
use Rattle.std.proofs.Math.Option.{Option, none}
use Rattle.std.proofs.Math.Dec.{eqb}
use borrow.Author.Tests.{eqb-true, eqb-false}
use Rattle.lists.specs.Lists.{upto}
use Rattle.trellis.specs.Outcome.{larger}
use Rattle.trellis.specs.laws.MaxPlus.{none_larger, larger_none, larger_assoc}
use Rattle.trellis.specs.laws.Over.{over, over_zero, over_suc, over_ext, over_at, most_larger}

over_larger : (n : ℕ) (f g : ℕ → Option ℤ) → over n (λ s. larger (f s) (g s)) ≡ larger (over n f) (over n g)
unfolding over
over_larger n f g = most_larger f g (upto n)

module _ (f : ℕ → Option ℤ) where
  -- f where it is asked for, and nothing elsewhere
  only : ℕ → ℕ → Option ℤ
  only a s = cond (eqb s a) (f s) none

  -- all but a and b have none
  pub over_two :
      (n a b : ℕ) → a < b → b < n → ((s : ℕ) → s < n → (s ≡ a → ⊥) → (s ≡ b → ⊥) → f s ≡ none) → over n f ≡ larger (f a) (f b)
  unfolding only
  over_two n a b less below elsewhere =
      over_ext n split ∙ over_larger n (only a) (only b) ∙ ap₂ larger (over_at n a f (omega arith)) (over_at n b f below)
    where
      split : (s : ℕ) → s < n → f s ≡ larger (only a s) (only b s)
      split s l = go (eqb s a) refl (eqb s b) refl
        where
          go : (p : Bool) → eqb s a ≡ p → (q : Bool) → eqb s b ≡ q → f s ≡ larger (cond p (f s) none) (cond q (f s) none)
          go true e true d = absurd (let x : s ≡ a = eqb-true s a e in let y : s ≡ b = eqb-true s b d in omega arith)
          go true e false d = sym (larger_none (f s))
          go false e true d = sym (none_larger (f s))
          go false e false d = elsewhere s l (eqb-false s a e) (eqb-false s b d) ∙ sym (none_larger none)

  over_sum : (n m : ℕ) → over (n + m) f ≡ larger (over n f) (over m (λ i. f (i + n)))
  over_sum n zero = rw (add-zero n, over_zero) (sym (larger_none (over n f)))
  over_sum n (suc m) =
      rw (add-suc n m)
      (over_suc (n + m) f
      ∙ ap₂ larger (over_sum n m) (ap f (add_comm n m))
      ∙ larger_assoc _ _ _
      ∙ ap (larger (over n f)) (sym (over_suc m (λ i. f (i + n)))))

  -- by pairs of one state from each half
  pub over_halves : (half : ℕ) → over (half + half) f ≡ over half (λ i. larger (f i) (f (i + half)))
  over_halves half = over_sum half half ∙ sym (over_larger half f (λ i. f (i + half)))
