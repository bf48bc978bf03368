use Rattle.std.proofs.Common.{◌≡◌, ℕ, ◌+◌, ◌*◌, ◌<◌, ℤ, length}
use Rattle.trellis.specs.laws.Sweeps.{advance}
use Rattle.metrics.specs.Words.{row}
use Rattle.butterfly.specs.laws.Metrics.{Wings}
use Rattle.butterfly.proofs.step.forwards.Given as goal

-- what the first i wings lead to has its metrics, whatever table has these wings
abbrev pub invariant-loop-i : goal.invariant-loop-i
invariant-loop-i l = record {
  long : length l.out ≡ 16;
  rows : (target : ℕ → ℕ → ℕ) (branch-metric : ℕ → ℕ → ℤ) → Wings target branch-metric l.half l.signs l.values.own l.values.other
      → (s : ℕ) → s < 2 * l.i → row l.out s ≡ advance target branch-metric (l.half + l.half) (row l.m) s;
}
