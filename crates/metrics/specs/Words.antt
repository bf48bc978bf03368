-- How the code holds metrics: as words, one of which is reserved for a state that has none.
-- Assumes nothing.
use Rattle.std.specs.Prelude.{Bool, cond, List, ℕ, ◌+◌, eqb, ℤ, pos, get_or}
use Rattle.std.proofs.Math.Option.{Option, none, some}
use Rattle.std.specs.Int.{w32}
use Rattle.std.proofs.Common.{of_z}
use Rattle.trellis.specs.laws.Sweeps.{Row}

-- the reserved word, -2^31, is no metric, since none exceeds 50,311,168 in size; the test is on the word's bits, as the code has it
abbrev pub is_nothing : ℤ → Bool
is_nothing z = eqb (of_z w32 z) 2147483648

-- the metric that a word stands for: an unreached state has none
abbrev pub held : ℤ → Option ℤ
held z = cond (is_nothing z) none (some z)

-- the words of a list from a place on as a row, and those from its beginning
abbrev pub row_at : List ℤ → ℕ → Row
row_at xs at s = held (get_or xs (at + s) (pos 0))

abbrev pub row : List ℤ → Row
row m s = held (get_or m s (pos 0))

-- no best metric is as large in size; words past it count as none where a position is told
abbrev pub best_limit : ℕ
best_limit = 100000000
