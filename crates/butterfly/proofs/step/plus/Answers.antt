use mathlib.Core.Path.{◌≡◌}
use mathlib.Core.Logic.{inl, inr}
use mathlib.Core.Option.{some}
use native.Mathlib.Omega.{arith}
use lib.IntN.{◌+ℤ◌}
use mir.Syntax.{w32}
use mir.Val.{SFits}
use Rattle.integers.specs.laws.Bounds.{Within}
use Rattle.integers.specs.laws.Laws.{within_more}
use Rattle.integers.specs.laws.Linear.{plain}
use Rattle.trellis.specs.laws.MaxPlus.{plus}
use Rattle.metrics.specs.Words.{held}
use Rattle.metrics.specs.laws.Held.{held_none, held_some}
use Rattle.butterfly.proofs.Sums.{small_fits, sum_there}
use Rattle.butterfly.proofs.step.plus.Goals as goal

-- where the sum is worked out, the metric is there
there : (c : goal.Then-m-ne-NOTHING) → held c.args.m ≡ some c.args.m
there c = elim c.if-m-ne-NOTHING.either [ inl p ↦ c.requires.m_value p | inr q ↦ held_some _ q.1 ]

pub returns-then-m-ne-NOTHING : goal.returns-then-m-ne-NOTHING
returns-then-m-ne-NOTHING c =
    let m-fits = c.ranges.m in
    let g-fits = c.ranges.g in
    let sum : Within 50321405 (c.args.m +ℤ c.args.g) × (held (c.args.m +ℤ c.args.g) ≡ plus (held c.args.m) (some c.args.g)) =
    sum_there {a = 50311168} {b = 10237} c.args.m c.args.g (omega arith) (there c) c.requires.small c.requires.within in
    let sum_fits : SFits w32 (c.args.m +ℤ c.args.g) = small_fits _ (within_more (omega arith) sum.0) in
    simp plain sum.1

pub returns-else-m-ne-NOTHING : goal.returns-else-m-ne-NOTHING
unfolding plus
returns-else-m-ne-NOTHING c = rw (held_none c.args.m c.if-m-ne-NOTHING.false.1)
