use Rattle.std.specs.Prelude.{◌≡◌}
use Rattle.lists.specs.Lists.{found}
use Rattle.trellis.specs.laws.MaxPlus.{plus as sum}
use Rattle.trellis.specs.laws.Over.{over}
use Rattle.metrics.specs.Words.{row}
use Rattle.metrics.proofs.rows.arrived.Given as goal

-- so far it tells of the first s states
abbrev pub invariant-loop-s : goal.invariant-loop-s
invariant-loop-s l = l.any ≡ found (over l.s (λ s. sum (row l.m s) (row l.last s)))
