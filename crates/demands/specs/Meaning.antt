-- What the outcome of a position means (document 01, "Table, path and metric"; demand 3): said over the paths of an end and their metrics,
-- with no recursion over states and no listing of paths.
-- Assumes nothing.
use Rattle.std.specs.Prelude.{◌≡◌, ℕ, ◌-◌, ◌<◌, ℤ, pos, ◌-ℤ◌, ◌*ℤ◌}
use Rattle.std.proofs.Math.Option.{Option, none, some}
use Rattle.trellis.specs.declared.End.{End}
use Rattle.trellis.specs.declared.Outcome.{Outcome}
use Rattle.trellis.specs.declared.Outcome.TheVariants.{Free, Forced}
use Rattle.trellis.specs.Table.{Table}
use Rattle.trellis.specs.Path.{Values, TrellisPath}
use Rattle.trellis.specs.Best.{IsPath, InClass, IsBest}

-- a path of n sections
pub record SomePath (t : Table) (end : End) (n : ℕ) : Type 0 where
  pub path : TrellisPath
  pub is_path : IsPath t end n path

-- the class of bit b at position k is empty, of the paths of n sections
pub record IsEmptyClass (t : Table) (end : End) (n k b : ℕ) : Type 0 where
  pub empty : (p : TrellisPath) → InClass t end n k b p → ⊥

-- neither class is empty, and twice the margin is exactly the difference of their best metrics
pub record IsFree (t : Table) (v : Values) (end : End) (n k : ℕ) (margin : ℤ) : Type 0 where
  pub zeros : ℤ
  pub ones : ℤ
  pub best_zero : IsBest t v end n k 0 zeros
  pub best_one : IsBest t v end n k 1 ones
  pub half : pos 2 *ℤ margin ≡ ones -ℤ zeros

-- the class of bit b has a path, and the other class is empty
pub record IsForced (t : Table) (v : Values) (end : End) (n k b : ℕ) : Type 0 where
  pub bit : b < 2
  pub top : ℤ
  pub has : IsBest t v end n k b top
  pub other : IsEmptyClass t end n k (1 - b)

-- both classes are empty
pub record IsNone (t : Table) (end : End) (n k : ℕ) : Type 0 where
  pub no_zeros : IsEmptyClass t end n k 0
  pub no_ones : IsEmptyClass t end n k 1

-- the outcome at position k of a pass that reads the values v: free with a margin, forced to a bit, or none where there is no path
unfoldable pub Means : Table → Values → End → ℕ → ℕ → Option Outcome → Type 0
Means t v end n k none = IsNone t end n k
Means t v end n k (some (Free margin)) = IsFree t v end n k margin
Means t v end n k (some (Forced b)) = IsForced t v end n k b
