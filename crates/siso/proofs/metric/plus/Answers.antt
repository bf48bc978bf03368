use Rattle.std.specs.Prelude.{◌≡◌, ℤ, ◌+ℤ◌}
use Rattle.std.proofs.Common.{arith, SFits}
use Rattle.std.proofs.Math.Option.{some}
use Rattle.std.specs.Int.{w32}
use Rattle.integers.specs.laws.Bounds.{Within}
use Rattle.integers.specs.laws.Laws.{within_sum}
use Rattle.integers.specs.laws.Linear.{ints, plain}
use Rattle.trellis.specs.laws.MaxPlus.{plus}
use Rattle.trellis.proofs.laws.Sizes.{small_known}
use Rattle.metrics.specs.Words.{held}
use Rattle.metrics.specs.laws.Held.{held_none, held_some, held_small}
use Rattle.siso.proofs.metric.plus.Goals as goal

within-fits : (z : ℤ) → Within 200000000 z → SFits w32 z
within-fits z = simp ints (omega arith)

is-there : (c : goal.Else-m-eq-NOTHING) → held c.args.m ≡ some c.args.m
is-there c = held_some _ c.if-m-eq-NOTHING.false

sum_small : (c : goal.Else-m-eq-NOTHING) → Within 200000000 (c.args.m +ℤ c.args.g)
sum_small c = within_sum (small_known (rw (is-there c) at c.requires.small)) c.requires.within

pub returns-then-m-eq-NOTHING : goal.returns-then-m-eq-NOTHING
unfolding plus
returns-then-m-eq-NOTHING c = rw (held_none c.args.m c.if-m-eq-NOTHING.true)

pub returns-else-m-eq-NOTHING : goal.returns-else-m-eq-NOTHING
unfolding plus
returns-else-m-eq-NOTHING c =
    let m-fits = c.ranges.m in
    let g-fits = c.ranges.g in
    let sum_fits = within-fits _ (sum_small c) in
    simp plain (rw (is-there c) (held_small _ (sum_small c)))
