use Rattle.std.proofs.Common.{◌≡◌, ℕ, ◌+◌, ◌<◌, List, ℤ, length}
use Rattle.std.proofs.Math.Option.{Option}
use Rattle.trellis.specs.Outcome.{larger}
use Rattle.trellis.specs.laws.Over.{over}
use Rattle.trellis.specs.laws.Sweeps.{Row, retreat, passing}
use Rattle.metrics.specs.Words.{held, row, row_at}
use Rattle.butterfly.specs.laws.Metrics.{Wings}
use Rattle.butterfly.proofs.step.backwards.Given as goal

-- the best with bit b through the first i wings
abbrev pub best-through : (ℕ → ℕ → ℕ) → (ℕ → ℕ → ℤ) → ℕ → Row → Row → ℕ → ℕ → Option ℤ
best-through target branch-metric half before after b i =
    over i (λ j. larger (passing target branch-metric before after b j) (passing target branch-metric before after b (j + half)))

-- the states of the first i wings have their metrics, and the best so far are those of the paths through these wings
pub record So-far
    (target : ℕ → ℕ → ℕ) (branch-metric : ℕ → ℕ → ℤ) (half : ℕ) (m work : List ℤ) (at : ℕ) (out : List ℤ) (zeros ones : ℤ) (i : ℕ) : Type 0 where
  pub near : (s : ℕ) → s < i → row out s ≡ retreat target branch-metric (row m) s
  pub far : (s : ℕ) → s < i → row out (s + half) ≡ retreat target branch-metric (row m) (s + half)
  pub zero_is : held zeros ≡ best-through target branch-metric half (row_at work at) (row m) 0 i
  pub one_is : held ones ≡ best-through target branch-metric half (row_at work at) (row m) 1 i

abbrev pub invariant-loop-i : goal.invariant-loop-i
invariant-loop-i l = record {
  long : length l.out ≡ 16;
  so_far : (target : ℕ → ℕ → ℕ) (branch-metric : ℕ → ℕ → ℤ) → Wings target branch-metric l.half l.signs l.values.own l.values.other
      → So-far target branch-metric l.half l.m l.work l.at l.out l.zero l.one l.i;
}
