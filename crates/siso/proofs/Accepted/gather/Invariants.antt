use Rattle.std.specs.Prelude.{◌-◌}
use Rattle.metrics.specs.Words.{row}
use Rattle.trellis.specs.laws.Sweeps.{ending, backward, meet_from}
use Rattle.siso.specs.laws.Steps.{Agree}
use Rattle.siso.proofs.Gathering.{LeftFrom}
use Rattle.siso.proofs.Accepted.gather.Given as goal

-- the metrics are the row before section k, and every position from k on is as the sweep leaves it
abbrev pub invariant-loop-k : goal.invariant-loop-k
invariant-loop-k l =
    let t = l.self.table in
    let v = l.self.values in
    let end = l.self.end in
    let n = l.self.sections in
    record {
      here : Agree t.states (row l.m) (backward t v (ending end l.start) l.k (n - l.k));
      lists : LeftFrom t v l.first l.last (λ k. meet_from t v end n k 0 l.start) (λ k. meet_from t v end n k 1 l.start) n
          l.fn.margins l.fn.extrinsics l.k l.marks l.margins l.extrinsics;
    }
