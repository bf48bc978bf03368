use Rattle.std.specs.Prelude.{◌≡◌, ℕ, ◌<◌, length}
use Rattle.trellis.specs.laws.Sweeps.{advance}
use Rattle.metrics.specs.Words.{row}
use Rattle.siso.specs.laws.Held.{target_of, branch_metric_of, Saved}
use Rattle.siso.proofs.section.forwards.Given as goal

-- the states are reached by the best of the branches of the first s states, whose metrics are stored
abbrev pub invariant-loop-s : goal.invariant-loop-s
invariant-loop-s l = record {
  width : length l.out ≡ 16;
  best : (r : ℕ) → r < 16 → row l.out r ≡ advance (target_of l.next) (branch_metric_of l.words l.g l.a) l.s (row l.m) r;
  saved : Saved l.m l.s l.at l.fn.work l.work;
}
