use Rattle.metrics.specs.Words.{row}
use Rattle.trellis.specs.laws.Sweeps.{boundary, forward}
use Rattle.siso.specs.laws.Pass.{Forward}
use Rattle.siso.specs.laws.Steps.{Agree}
use Rattle.siso.proofs.Accepted.forward.Given as goal

-- the metrics held are the forward row before section k, and the working list has the rows before it
abbrev pub invariant-loop-k : goal.invariant-loop-k
invariant-loop-k l = record {
  here : Agree l.self.table.states (row l.m) (forward l.self.table l.self.values (boundary l.start) l.k);
  rows : Forward l.self.table l.self.values l.start l.k l.work;
}
