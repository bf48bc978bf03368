-- The definitions of hints by their parts, as the code goes through a text.
-- Assumes nothing.
use Rattle.std.specs.Prelude.{◌≡◌, refl, Bool, true, false, cond, ◌&&◌, List, [], ◌∷◌, ℕ, zero, suc, ◌+◌, ◌≤◌, ◌<◌, eqb, length, get_or, take, drop}
use Rattle.std.proofs.Common.{◌∙◌, arith, drop_of_length-le, drop-cons}
use Rattle.std.proofs.Math.Nat.{add-zero}
use Rattle.std.proofs.Math.Numerals.{add-one}
use Rattle.std.proofs.Math.Seq.{get_or-drop}
use Rattle.lists.specs.Lists.{count, is_empty}
use Rattle.lists.specs.laws.Counts.{count_take}
use Rattle.text.specs.Text.{line_feed}
use Rattle.text.specs.laws.Comparing.{same_lengths}
use Rattle.hints.specs.Hints.{starts_with, space_at}

-- what stands for no entry doesn't matter inside the list
pub inside : (xs : List ℕ) (i d e : ℕ) → i < length xs → get_or xs i d ≡ get_or xs i e
inside [] i d e h = absurd (omega arith)
inside (x ∷ xs) zero d e h = refl
inside (x ∷ xs) (suc i) d e h = inside xs i d e (omega arith)

pub some_not_empty : (xs : List ℕ) → (length xs ≡ 0 → ⊥) → is_empty xs ≡ false
unfolding is_empty
some_not_empty [] h = absurd (h refl)
some_not_empty (x ∷ xs) h = refl

pub none_empty : (xs : List ℕ) → length xs ≡ 0 → is_empty xs ≡ true
unfolding is_empty
none_empty [] h = refl
none_empty (x ∷ xs) h = absurd (omega arith)

-- a shorter text does not start with a longer one
pub too_short : (front text : List ℕ) → length text < length front → starts_with front text ≡ false
unfolding starts_with
too_short front text h = same_lengths _ _ (λ e. omega (arith, e, take_short (length front) text))
  where
    take_short : (n : ℕ) (xs : List ℕ) → length (take n xs) ≤ length xs
    take_short zero xs = omega arith
    take_short (suc n) [] = omega arith
    take_short (suc n) (x ∷ xs) = omega (arith, take_short n xs)

-- ---- line feeds

abbrev pub feeds : List ℕ → ℕ → ℕ
feeds text at = count (λ b. eqb b line_feed) (take at text)

pub feeds_more : (text : List ℕ) (i : ℕ) → i < length text → feeds text (i + 1) ≡ cond (eqb (get_or text i 0) 10) (feeds text i + 1) (feeds text i)
feeds_more text i h = count_take _ text i 0 h

-- there are no more of them than bytes
pub feeds_few : (text : List ℕ) (at : ℕ) → feeds text at ≤ at
unfolding count
feeds_few text zero = omega arith
feeds_few [] (suc at) = omega arith
feeds_few (x ∷ xs) (suc at) = go (eqb x line_feed) (feeds xs at) (feeds_few xs at)
  where
    go : (t : Bool) (n : ℕ) → n ≤ at → cond t (suc n) n ≤ suc at
    go true n h = omega arith
    go false n h = omega arith

pub feeds_none : (text : List ℕ) → feeds text 0 ≡ 0
unfolding count
feeds_none text = refl

-- ---- a space at a line's end

abbrev pub ends_in_space : List ℕ → ℕ → Bool
ends_in_space text i = eqb (get_or text i 0) 32 && eqb (get_or text (i + 1) 0) 10

module _ (text : List ℕ) (i : ℕ) where
  space_on : i < length text → space_at (drop i text) ≡ cond (ends_in_space text i) 0 (suc (space_at (drop (i + 1) text)))
  unfolding space_at
  space_on h = rw (drop-cons text i 0 h, get_or-drop (suc i) text 0 0, add-zero (suc i), add-one i)

  pub space_here : i < length text → ends_in_space text i ≡ true → space_at (drop i text) ≡ 0
  space_here h e = space_on h ∙ rw e

  pub space_past : i < length text → ends_in_space text i ≡ false → space_at (drop i text) ≡ suc (space_at (drop (i + 1) text))
  space_past h e = space_on h ∙ rw e

  pub space_end : length text ≤ i → space_at (drop i text) ≡ 0
  unfolding space_at
  space_end h = rw (drop_of_length-le text h)
