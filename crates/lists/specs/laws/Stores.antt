-- Lists that a loop fills from the front, one store an index: what is there after one more store, and at the end.
-- Assumes nothing.
use Rattle.std.specs.Prelude.{◌≡◌, List, ℕ, ◌+◌, ◌<◌, length, get_or, set}
use Rattle.std.proofs.Common.{sym, ◌∙◌, arith, get_or-set_same, get_or-set_other, ext_get_or}
use Rattle.std.proofs.Math.Decide.{ℕ_discrete}
use Rattle.lists.specs.Lists.{listed}
use Rattle.lists.specs.laws.Listed.{listed_length, listed_at}

-- the entries below i are f's
pub record Filled {A : Type 0} (d : A) (f : ℕ → A) (xs : List A) (i : ℕ) : Type 0 where
  pub entry : (j : ℕ) → j < i → get_or xs j d ≡ f j

module _ {A : Type 0} {d : A} {f : ℕ → A} where
  pub filled_none : (xs : List A) → Filled d f xs 0
  filled_none xs = record { entry = λ j h. absurd (omega arith) }

  pub filled_more : {xs : List A} {i : ℕ} {v : A} → i < length xs → v ≡ f i → Filled d f xs i → Filled d f (set xs i v) (i + 1)
  filled_more {xs} {i} {v} l e h = record { entry = one_more }
    where
      one_more : (j : ℕ) → j < i + 1 → get_or (set xs i v) j d ≡ f j
      one_more j k = elim (ℕ_discrete j i) [
        | yes q ↦ rw q (get_or-set_same xs i v d l ∙ e)
        | no q ↦ get_or-set_other xs i j v d q ∙ h.entry j (omega arith)
      ]

  pub filled_all : {xs : List A} {n : ℕ} → length xs ≡ n → Filled d f xs n → xs ≡ listed f n
  filled_all {xs} {n} e h =
      ext_get_or d xs (listed f n) (e ∙ sym (listed_length f n)) (λ i l. h.entry i (omega arith) ∙ sym (listed_at f n i d (omega arith)))
