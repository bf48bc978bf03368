-- Laws of `same`: texts of two lengths, or with two entries that differ, aren't; and it passes exactly where the texts are equal.
-- Assumes nothing.
use Rattle.std.specs.Prelude.{◌≡◌, refl, ◌↔◌, true, false, List, [], ◌∷◌, ℕ, zero, suc, ◌<◌, eqb, length, get_or}
use Rattle.std.proofs.Common.{ap, ap₂, arith, ext_get_or, eqb-true, eq-eqb, ne_eqb}
use Rattle.std.proofs.Math.Bool.{and-false}
use Rattle.std.proofs.lemmas.Bool.{false≢true}
use Rattle.lists.specs.laws.Tests.{and_both, and_true}
use Rattle.text.specs.Text.{same}

pub same_lengths : (xs ys : List ℕ) → (length xs ≡ length ys → ⊥) → same xs ys ≡ false
unfolding same
same_lengths [] [] h = absurd (h refl)
same_lengths [] (y ∷ ys) h = refl
same_lengths (x ∷ xs) [] h = refl
same_lengths (x ∷ xs) (y ∷ ys) h = rw (same_lengths xs ys (λ e. h (ap suc e))) (and-false (eqb x y))

pub same_not : (xs ys : List ℕ) (i : ℕ) → i < length xs → i < length ys → (get_or xs i 0 ≡ get_or ys i 0 → ⊥) → same xs ys ≡ false
unfolding same
same_not [] ys i h k d = absurd (omega arith)
same_not (x ∷ xs) [] i h k d = refl
same_not (x ∷ xs) (y ∷ ys) zero h k d = rw (ne_eqb x y d)
same_not (x ∷ xs) (y ∷ ys) (suc i) h k d = rw (same_not xs ys i (omega arith) (omega arith) d) (and-false (eqb x y))

pub same_itself : (xs : List ℕ) → same xs xs ≡ true
unfolding same
same_itself [] = refl
same_itself (x ∷ xs) = and_true (eq-eqb x x refl) (same_itself xs)

same_equal : (xs ys : List ℕ) → same xs ys ≡ true → xs ≡ ys
unfolding same
same_equal [] [] e = refl
same_equal [] (y ∷ ys) e = absurd (false≢true e)
same_equal (x ∷ xs) [] e = absurd (false≢true e)
same_equal (x ∷ xs) (y ∷ ys) e = let (here, rest) = and_both (eqb x y) (same xs ys) e in ap₂ ◌∷◌ (eqb-true x y here) (same_equal xs ys rest)

pub same_exactly : (xs ys : List ℕ) → (same xs ys ≡ true) ↔ (xs ≡ ys)
same_exactly xs ys = (same_equal xs ys, λ e. rw e (same_itself ys))

-- as a loop finds it
pub same_entries : (xs ys : List ℕ) → length xs ≡ length ys → ((i : ℕ) → i < length xs → get_or xs i 0 ≡ get_or ys i 0) → same xs ys ≡ true
same_entries xs ys l h = (same_exactly xs ys).1 (ext_get_or 0 xs ys l h)
