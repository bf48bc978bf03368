-- The library's words for what a chain gives, as the definitions' own.
-- Assumes nothing.
use Rattle.std.specs.Prelude.{◌≡◌, refl, Bool, cond, ◌&&◌, List, [], ◌∷◌, ℕ, ◌+◌, ◌-◌, ◌≤◌, eqb, ltb, nat_eq, length, take, drop, Some, None}
use Rattle.std.specs.List.{list_all, position_or_len, starts_with}
use Rattle.std.proofs.Math.Seq.{take-length}
use Rattle.std.proofs.lemmas.List.{take_all}
use Rattle.std.specs.Option.{unwrap_or}
use Rattle.std.specs.Cmp.Lexicographic.{pointwise}
use Rattle.std.proofs.Common.{ap, arith, eq-eqb, ne_eqb, lt-ltb, le-ltb}
use Rattle.std.proofs.lemmas.List.Recursion.{is_position_or_len}
use Rattle.std.proofs.Math.Decide.{ℕ_discrete, dec_lt}
use Rattle.lists.specs.Lists.{every}
use Rattle.text.specs.Text.{same}
use Rattle.text.specs.laws.Comparing.{same_lengths}
use Rattle.text.specs.laws.Cutting.{first, first_here, first_past, first_nothing}

pub every_all : {A : Type 0} (p : A → Bool) (xs : List A) → list_all p xs ≡ every p xs
unfolding every
every_all p [] = refl
every_all p (x ∷ xs) = ap (λ b. p x && b) (every_all p xs)

pub same_pointwise : (xs ys : List ℕ) → pointwise nat_eq xs ys ≡ same xs ys
unfolding same
same_pointwise [] [] = refl
same_pointwise [] (y ∷ ys) = refl
same_pointwise (x ∷ xs) [] = refl
same_pointwise (x ∷ xs) (y ∷ ys) = ap (λ b. eqb x y && b) (same_pointwise xs ys)

-- so compared from their starts, however that start is told, and where the one of two of a length begins with the other
pub same_from : (xs ys : List ℕ) (i j : ℕ) → i ≡ 0 → j ≡ 0 → pointwise nat_eq (take (length xs - i) (drop i xs)) (take (length ys - j) (drop j ys)) ≡ same xs ys
same_from xs ys i j e f = rw (e, f) (rw (take_all (length xs - 0) xs (omega arith), take_all (length ys - 0) ys (omega arith)) (same_pointwise xs ys))

pub same_starts : (xs ys : List ℕ) → length xs ≡ length ys → starts_with nat_eq ys xs ≡ same xs ys
same_starts xs ys e = rw (e, take-length ys) (same_pointwise xs ys)

-- what a comparison goes by, in whichever of these forms it is written
pub ruleset comparisons = (same_pointwise, same_from, same_starts, same_lengths)

-- the first piece ends at the first such byte
pub first_position : (b : ℕ) (xs : List ℕ) → length (first b xs) ≡ position_or_len (λ x. eqb x b) xs
first_position b = is_position_or_len (λ xs. length (first b xs)) (λ x. eqb x b) (ap length (first_nothing b)) more
  where
    more : (x : ℕ) (xs : List ℕ) → length (first b (x ∷ xs)) ≡ cond (eqb x b) 0 (1 + length (first b xs))
    more x xs = elim (ℕ_discrete x b) [
      | yes e ↦ rw (first_here xs e, eq-eqb x b e) refl
      | no d ↦ rw (first_past xs d, ne_eqb x b d) (omega arith)
    ]

-- where a search finds nothing, the end is told
pub found_or_end : (n m : ℕ) → n ≤ m → unwrap_or (cond (ltb n m) (Some n) None) m ≡ n
found_or_end n m h = elim (dec_lt n m) [
  | yes l ↦ rw (lt-ltb n m l) refl
  | no l ↦ rw (le-ltb n m (omega arith)) (omega arith)
]
