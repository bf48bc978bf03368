use Rattle.std.specs.Prelude.{◌≡◌, ℤ, ◌+ℤ◌}
use Rattle.std.proofs.Common.{◌∙◌, arith, SFits}
use Rattle.std.proofs.Math.Option.{some}
use Rattle.std.specs.Int.{w32}
use Rattle.integers.specs.laws.Bounds.{Within}
use Rattle.integers.specs.laws.Laws.{within_sum}
use Rattle.integers.specs.laws.Linear.{ints, plain}
use Rattle.trellis.specs.laws.MaxPlus.{plus, plus_comm, plus_assoc}
use Rattle.trellis.proofs.laws.Sizes.{small_known, small_more}
use Rattle.metrics.specs.Words.{held}
use Rattle.metrics.specs.laws.Held.{held_none, held_some}
use Rattle.siso.proofs.metric.through.Goals as goal

within-fits : (z : ℤ) → Within 50323451 z → SFits w32 z
within-fits z = simp ints (omega arith)

is-there : (c : goal.Else-f-eq-NOTHING) → held c.args.f ≡ some c.args.f
is-there c = held_some _ c.if-f-eq-NOTHING.false

sum_small : (c : goal.Else-f-eq-NOTHING) → Within 50323451 (c.args.f +ℤ c.args.g)
sum_small c = within_sum (small_known (rw (is-there c) at c.requires.small)) c.requires.within

pub plus-requires-clause-small : goal.plus-requires-clause-small
plus-requires-clause-small c = let m-fits = c.ranges.m in simp plain (small_more (omega arith) c.requires.small_2)

pub returns-then-f-eq-NOTHING : goal.returns-then-f-eq-NOTHING
unfolding plus
returns-then-f-eq-NOTHING c = rw (held_none c.args.f c.if-f-eq-NOTHING.true)

pub returns-else-f-eq-NOTHING : goal.returns-else-f-eq-NOTHING
unfolding plus
returns-else-f-eq-NOTHING c =
    let f-fits = c.ranges.f in
    let g-fits = c.ranges.g in
    let m-fits = c.ranges.m in
    let sum_fits = within-fits _ (within_sum (small_known (rw (held_some _ c.if-f-eq-NOTHING.false) at c.requires.small)) c.requires.within) in
    let r-fits = c.plus.type_inv in
    let f = some c.args.f in
    let g = some c.args.g in
    let m = held c.args.m in
    simp plain (rw (held_some c.args.f c.if-f-eq-NOTHING.false) ((simp plain at c.plus.ensures) ∙ plus_comm m (plus f g) ∙ plus_assoc f g m))
