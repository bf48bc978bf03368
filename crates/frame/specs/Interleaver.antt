-- The interleaver: patterns, interleaving and deinterleaving (document 01, "Frame"; document 001, section 6).
-- Assumes nothing.
use Rattle.std.specs.Prelude.{Bool, cond, List, [], ◌∷◌, map, ℕ, suc, eqb, length, get_or}
use Rattle.lists.specs.Lists.{listed, every, count, upto}

-- a pattern has each of 0..K-1 exactly once (not so: 8)
unfoldable pub permutes : ℕ → List ℕ → Bool
permutes k pattern = every (λ x. eqb (count (eqb x) pattern) 1) (upto k)

-- where x first stands in a list
unfoldable pub place : ℕ → List ℕ → ℕ
place x [] = 0
place x (y ∷ ys) = cond (eqb x y) 0 (suc (place x ys))

module _ {A : Type 0} (d : A) where
  -- interleaved: entry i is the entry at pattern(i). (d is read past the end, which no list of K entries comes to.)
  unfoldable pub interleave : List ℕ → List A → List A
  interleave pattern xs = map (λ i. get_or xs i d) pattern

  -- deinterleaved: entry i goes to pattern(i), so entry x is the one at x's place in the pattern
  unfoldable pub deinterleave : List ℕ → List A → List A
  deinterleave pattern xs = listed (λ x. get_or xs (place x pattern) d) (length pattern)
