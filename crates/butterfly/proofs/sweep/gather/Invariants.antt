use Rattle.std.proofs.Common.{◌≤◌}
use Rattle.butterfly.specs.laws.Flights.{Gathered}
use Rattle.butterfly.proofs.sweep.gather.Given as goal

-- the metrics are the row before section k, and every position from it on has the best metrics raised by those of this start, of every table with these wings,
-- and of every end and start that have the rows
abbrev pub invariant-loop-k : goal.invariant-loop-k
invariant-loop-k l = record {
  low : l.from ≤ l.k;
  swept : Gathered l.kind l.signs l.channel l.apriori l.k l.to l.first l.initial.m l.m l.work l.initial.margins l.initial.extrinsics l.margins l.extrinsics;
}
