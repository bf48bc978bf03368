-- What a tail is, with no search: of the inputs that lead back to state 0 in as many sections, those that come first in dictionary order
-- (document 01, "Frame").
-- Assumes nothing.
use Rattle.std.specs.Prelude.{◌≡◌, ◌⊎◌, List, [], ◌∷◌, ℕ, ◌<◌}
use Rattle.trellis.specs.Table.{Table}
use Rattle.trellis.specs.Best.{IsTerminating}

-- dictionary order: where two lists first differ, the entry of the first is the smaller
abbrev pub Before : List ℕ → List ℕ → Type 0
Before [] q = ⊥
Before (a ∷ p) [] = ⊥
Before (a ∷ p) (b ∷ q) = (a < b) ⊎ ((a ≡ b) × Before p q)

-- p leads back from state s, and no list that comes before it does
pub record IsFirst (t : Table) (s n : ℕ) (p : List ℕ) : Type 0 where
  pub leads : IsTerminating t s n p
  pub first : (q : List ℕ) → IsTerminating t s n q → Before q p → ⊥
