-- Lists as the definitions use them: made from a function of the index, kept, tested and counted by a test.
-- Assumes nothing.
use Rattle.std.specs.Prelude.{Bool, true, false, cond, ◌&&◌, ◌||◌, List, [], ◌∷◌, ◌++◌, ℕ, zero, suc}
use Rattle.std.proofs.Math.Option.{Option, none, some}

module _ {A : Type 0} where
  -- f 0, f 1, .., f (n - 1)
  unfoldable pub listed : (ℕ → A) → ℕ → List A
  listed f zero = []
  listed f (suc n) = listed f n ++ (f n ∷ [])

  -- the lists f 0, f 1, .., f (n - 1), one after the other
  unfoldable pub joined : (ℕ → List A) → ℕ → List A
  joined f zero = []
  joined f (suc n) = joined f n ++ f n

  -- the entries that pass a test, in their order
  unfoldable pub keep : (A → Bool) → List A → List A
  keep f [] = []
  keep f (x ∷ xs) = cond (f x) (x ∷ keep f xs) (keep f xs)

  -- every entry passes
  unfoldable pub every : (A → Bool) → List A → Bool
  every f [] = true
  every f (x ∷ xs) = f x && every f xs

  -- some entry passes
  unfoldable pub any : (A → Bool) → List A → Bool
  any f [] = false
  any f (x ∷ xs) = f x || any f xs

  -- the index of the first entry that fails; the length where none does
  unfoldable pub first_failing : (A → Bool) → List A → ℕ
  first_failing f [] = 0
  first_failing f (x ∷ xs) = cond (f x) (suc (first_failing f xs)) 0

  -- how many entries pass
  unfoldable pub count : (A → Bool) → List A → ℕ
  count f [] = 0
  count f (x ∷ xs) = cond (f x) (suc (count f xs)) (count f xs)

  unfoldable pub is_empty : List A → Bool
  is_empty [] = true
  is_empty (x ∷ xs) = false

  -- there is one
  unfoldable pub found : Option A → Bool
  found none = false
  found (some x) = true

-- 0, 1, .., n - 1
unfoldable pub upto : ℕ → List ℕ
unfolding listed
upto n = listed (λ i. i) n
