use mathlib.Core.Path.{◌≡◌, sym, ◌∙◌}
use native.Mathlib.Omega.{arith}
use Rattle.trellis.specs.Table.{next_state}
use Rattle.trellis.specs.Path.{branch_metric}
use Rattle.trellis.specs.laws.Sweeps.{boundary, forward}
use Rattle.siso.specs.Lent.{values_of}
use Rattle.metrics.specs.Words.{row}
use Rattle.siso.specs.laws.Passed.{forward_is_small}
use Rattle.siso.specs.laws.Steps.{Agree}
use Rattle.butterfly.specs.laws.Flights.{states_of}
use Rattle.butterfly.proofs.Full.{reached_same, reached_forward}
use Rattle.butterfly.proofs.Sections.{own_is, other_is, own_small, other_small, row_more, next_forward}
use Rattle.butterfly.proofs.sweep.forward.Goals as goal

pub loop-k-init : goal.loop-k-init
loop-k-init c t n a winged same = (same, λ rows. rows)

-- ---- what the step asks for, of the table that the sweep was called for

pub invariant_of-values-clause-own_small : goal.invariant_of-values-clause-own_small
invariant_of-values-clause-own_small c =
    let w = c.requires.ahead.winged in
    rw (own_is w c.loop-k.k c.own_of.type_inv c.own_of.ensures) (own_small w c.loop-k.k)

pub invariant_of-values-clause-other_small : goal.invariant_of-values-clause-other_small
invariant_of-values-clause-other_small c =
    let w = c.requires.ahead.winged in
    rw (other_is w c.loop-k.k c.from.type_inv c.from.ensures) (other_small w c.loop-k.k)

row_is :
    (c : goal.After-values-1)
    → let given = c.requires.ahead in
    Agree (states_of c.args.course.kind) (row c.loop-k.m) (forward given.table (values_of c.args.course.channel.now c.args.course.apriori.now) (boundary given.start) c.loop-k.k)
row_is c = let given = c.requires.ahead in (c.loop-k.invariant given.table given.sections given.start given.winged given.row_is).0

pub step_forwards-after-requires-clause-held : goal.step_forwards-after-requires-clause-held
step_forwards-after-requires-clause-held c =
    let given = c.requires.ahead in
    record {
      small = λ s l.
          rw (row_is c s l)
          (forward_is_small given.winged.pass given.start c.loop-k.k s (omega (arith, c.loop-k-test.true, given.within)));
    }

pub step_forwards-after-requires-clause-reached : goal.step_forwards-after-requires-clause-reached
step_forwards-after-requires-clause-reached c p =
    let given = c.requires.ahead in
    reached_same (row_is c)
    (reached_forward given.winged (boundary given.start) c.args.from c.loop-k.k c.loop-k.auto.k
    (reached_same (λ s l. sym (given.row_is s l)) (c.requires.reached p)))

-- ---- a turn, of every table with these wings

pub loop-k-preserved : goal.loop-k-preserved
loop-k-preserved c t n a w same =
    let v = values_of c.args.course.channel.now c.args.course.apriori.now in
    let k = c.loop-k.k in
    let (row-was, rows) = c.loop-k.invariant t n a w same in
    let own = own_is w k c.own_of.type_inv c.own_of.ensures in
    let other = other_is w k c.from.type_inv c.from.ensures in (
      λ s l.
          c.step_forwards-after.ensures.by_index (next_state t) (branch_metric t v k) (rw (own, other) (w.wings k)) s l
          ∙ next_forward t v k w.halves (boundary a) row-was s,
      λ before. row_more c.loop-k.m w.halves row-was c.step_forwards-after.ensures.saved (rows before),
    )

pub returns : goal.returns
returns c =
    let e : c.loop-k.k ≡ c.args.to = omega (arith, c.loop-k.auto.k-end c.requires.ahead.ordered, c.loop-k-test.false) in
    rw e at c.loop-k.invariant
