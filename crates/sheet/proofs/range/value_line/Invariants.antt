use Rattle.std.proofs.Common.{[], ◌≡◌, ◌<◌, get_or, ℕ, true}
use Rattle.trellis.specs.Limits.{channel_fits}
use Rattle.sheet.specs.laws.Range.{rows_in}
use Rattle.sheet.proofs.range.value_line.Given as goal

-- the rows before i are within the limit
abbrev pub invariant-loop-i : goal.invariant-loop-i
invariant-loop-i l = (j : ℕ) → j < l.i → channel_fits (get_or (rows_in l.k l.values) j []) ≡ true
