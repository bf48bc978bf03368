-- What the library's clauses say of a chain over a slice (`list_all`, `position_or_len`), as the definitions' `every` and `first_failing`.
-- Assumes nothing.
use Rattle.std.specs.Prelude.{◌≡◌, refl, Bool, true, false, cond, not, ◌&&◌, List, [], ◌∷◌, ℕ, suc, ◌+◌, ◌≤◌, length, ltb, Option, Some, None}
use Rattle.std.specs.List.{list_all, position_or_len}
use Rattle.std.specs.Option.{unwrap_or}
use Rattle.std.proofs.Common.{ap, ◌∙◌, arith, lt-ltb, le-ltb}
use Rattle.std.proofs.lemmas.List.Recursion.{is_position_or_len}
use Rattle.std.proofs.Math.Decide.{dec_lt}
use Rattle.lists.specs.Lists.{every, first_failing}

pub every_all : {A : Type 0} (p : A → Bool) (xs : List A) → list_all p xs ≡ every p xs
unfolding every
every_all p [] = refl
every_all p (x ∷ xs) = ap (λ b. p x && b) (every_all p xs)

pub failing_position : {A : Type 0} (p : A → Bool) (xs : List A) → first_failing p xs ≡ position_or_len (λ x. not (p x)) xs
unfolding first_failing
failing_position {A = A} p = is_position_or_len (first_failing p) (λ x. not (p x)) refl more
  where
    more : (x : A) (xs : List A) → first_failing p (x ∷ xs) ≡ cond (not (p x)) 0 (1 + first_failing p xs)
    more x xs = go (p x)
      where
        go : (b : Bool) → cond b (suc (first_failing p xs)) 0 ≡ cond (not b) 0 (1 + first_failing p xs)
        go true = omega arith
        go false = refl

-- where a search finds nothing, the end is told
pub found_or_end : (n m : ℕ) → n ≤ m → unwrap_or (cond (ltb n m) (Some n) None) m ≡ n
found_or_end n m h = elim (dec_lt n m) [
  | yes l ↦ rw (lt-ltb n m l) refl
  | no l ↦ rw (le-ltb n m (omega arith)) (omega arith)
]
