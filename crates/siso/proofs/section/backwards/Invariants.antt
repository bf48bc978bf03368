use Rattle.std.specs.Prelude.{◌≡◌, ℕ, ◌<◌, length}
use Rattle.trellis.specs.laws.Sweeps.{retreat}
use Rattle.metrics.specs.Words.{held, row, row_at}
use Rattle.siso.specs.laws.Held.{target_of, branch_metric_of, best_of}
use Rattle.siso.proofs.section.backwards.Given as goal

-- the first s states have the best of going on with either bit, and the best metrics so far are those of the paths through these states
abbrev pub invariant-loop-s : goal.invariant-loop-s
invariant-loop-s l = record {
  width : length l.out ≡ 16;
  on : (j : ℕ) → j < l.s → row l.out j ≡ retreat (target_of l.next) (branch_metric_of l.words l.g l.a) (row l.m) j;
  zeros : held l.zero ≡ best_of l.s l.next l.words l.g l.a (row_at l.work l.at) (row l.m) 0;
  ones : held l.one ≡ best_of l.s l.next l.words l.g l.a (row_at l.work l.at) (row l.m) 1;
}
