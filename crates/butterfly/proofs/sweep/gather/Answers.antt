use mathlib.Core.Path.{◌≡◌, refl, sym, ap, ◌∙◌}
use mathlib.Core.List.{List}
use Prim.Native.Nat.{ℕ, ◌+◌, ◌*◌, ◌-◌, ◌≤◌, ◌<◌}
use native.Mathlib.Omega.{arith}
use mir.Facts.{to_z-of_z}
use mir.Syntax.{w32}
use mir.Val.{SFits}
use borrow.Author.Rules.{rules}
use lib.IntN.{ℤ}
use Rattle.trellis.specs.declared.End.{End}
use Rattle.trellis.specs.Table.{Table, next_state}
use Rattle.trellis.specs.Path.{Values, branch_metric}
use Rattle.trellis.specs.Outcome.{intrinsic}
use Rattle.trellis.specs.laws.Over.{over}
use Rattle.trellis.specs.laws.Sweeps.{Row, boundary, ending, forward, backward, passing, meet_from}
use Rattle.siso.specs.Lent.{values_of}
use Rattle.metrics.specs.Words.{held, row, row_at}
use Rattle.siso.specs.laws.Passed.{table_closed, forward_is_small, backward_is_small}
use Rattle.siso.specs.laws.Steps.{Agree}
use Rattle.siso.proofs.Gathering.{left_more}
use Rattle.butterfly.specs.laws.Flights.{Winged, states_of}
use Rattle.butterfly.specs.laws.Metrics.{Backed}
use Rattle.butterfly.proofs.Full.{reached_same, reached_backward}
use Rattle.butterfly.proofs.Sections.{own_is, other_is, own_small, other_small, row_of, next_backward, next_meet}
use Rattle.butterfly.proofs.sweep.gather.Goals as goal

pub loop-k-init : goal.loop-k-init
loop-k-init c = record { low = c.requires.behind.ordered; swept = λ t n end a w within rows same. (same, λ ms gs es so_far. so_far) }

-- ---- what the step asks for, of the table that the sweep was called for

pub invariant_of-values-clause-own_small : goal.invariant_of-values-clause-own_small
invariant_of-values-clause-own_small c =
    let w = c.requires.behind.winged in
    rw (own_is w (c.loop-k.k - 1) c.own_of.type_inv c.own_of.ensures) (own_small w (c.loop-k.k - 1))

pub invariant_of-values-clause-other_small : goal.invariant_of-values-clause-other_small
invariant_of-values-clause-other_small c =
    let w = c.requires.behind.winged in
    rw (other_is w (c.loop-k.k - 1) c.from.type_inv c.from.ensures) (other_small w (c.loop-k.k - 1))

module _ (c : goal.After-values-1) where
  bounds : (c.args.from < c.loop-k.k) × (c.loop-k.k ≤ c.args.to) × (c.args.to ≤ c.requires.behind.sections)
  bounds = (c.loop-k-test.true, c.loop-k.auto.k, c.requires.behind.within)

  after_is :
      let given = c.requires.behind in
      Agree (states_of c.args.course.kind) (row c.loop-k.m)
      (backward given.table (values_of c.args.course.channel.now c.args.course.apriori.now) (ending given.end given.start) c.loop-k.k (given.sections - c.loop-k.k))
  after_is =
      let given = c.requires.behind in
      (c.loop-k.invariant.swept given.table given.sections given.end given.start given.winged given.within given.rows given.row_is).0

  before-is :
      let given = c.requires.behind in
      Agree (states_of c.args.course.kind) (row_at c.args.work.now (states_of c.args.course.kind * (c.loop-k.k - 1)))
      (forward given.table (values_of c.args.course.channel.now c.args.course.apriori.now) (boundary given.start) (c.loop-k.k - 1))
  before-is = row_of c.requires.behind.winged c.requires.behind.rows (c.loop-k.k - 1) (omega (arith, bounds))

pub step_backwards-b-requires-clause-held : goal.step_backwards-b-requires-clause-held
step_backwards-b-requires-clause-held c =
    let given = c.requires.behind in
    record { small = λ s l. rw (after_is c s l) (backward_is_small given.winged.pass given.end given.start c.loop-k.k s) }

pub step_backwards-b-requires-clause-held_2 : goal.step_backwards-b-requires-clause-held_2
step_backwards-b-requires-clause-held_2 c =
    let given = c.requires.behind in
    record { small = λ s l. rw (before-is c s l) (forward_is_small given.winged.pass given.start (c.loop-k.k - 1) s (omega (arith, bounds c))) }

pub step_backwards-b-requires-clause-reached : goal.step_backwards-b-requires-clause-reached
step_backwards-b-requires-clause-reached c p =
    let given = c.requires.behind in
    let (full, rows-full) = c.requires.reached p in (
      reached_same (after_is c)
          (reached_backward given.winged (ending given.end given.start) c.args.to c.loop-k.k (omega (arith, bounds c)) given.within
          (reached_same (λ s l. sym (given.row_is s l)) full)),
      rows-full (c.loop-k.k - 1) (omega (arith, bounds c)) (omega (arith, bounds c)),
    )

-- ---- a turn, of every table with these wings, and of every end and start that have the rows

-- the best metric of the paths with bit b, as the step tells it
meets :
    {t : Table} {n : ℕ} {v : Values} {half : ℕ} {signs : List ℤ} (w : Winged t n v half signs) (end : End) (a k : ℕ) → k < n → {after before : Row}
    → Agree (half + half) after (backward t v (ending end a) (k + 1) (n - (k + 1))) → Agree (half + half) before (forward t v (boundary a) k)
    → (b : ℕ) → b < 2 → over (half + half) (passing (next_state t) (branch_metric t v k) before after b) ≡ meet_from t v end n k b a
unfolding meet_from
meets {t} {n} {v} {half} w end a k here after-row before-row b bit =
    next_meet t v k w.halves (table_closed w.pass) (ending end a) n here after-row (boundary a) before-row b bit

-- both best metrics are words
best-fits : (c : goal.After-m-1) → SFits w32 c.step_backwards-b.result.zero × SFits w32 c.step_backwards-b.result.one
best-fits c = (search rules, search rules)

pub loop-k-preserved : goal.loop-k-preserved
loop-k-preserved c =
    let v = values_of c.args.course.channel.now c.args.course.apriori.now in
    let S = states_of c.args.course.kind in
    let left = c.loop-k.k in
    let k = c.loop-k.k - 1 in
    let inside : c.args.from < left = c.loop-k-test.true in
    let high : left ≤ c.args.to = c.loop-k.auto.k in
    let b = c.step_backwards-b.result in
    record {
      low = omega (arith, inside);
      swept = λ t n end a w within rows same.
          let (row-was, so_far) = c.loop-k.invariant.swept t n end a w within rows same in
          let here : k < n = omega (arith, inside, high, within) in
          let e : k + 1 ≡ left = omega (arith, inside) in
          let after-row : Agree S (row c.loop-k.m) (backward t v (ending end a) (k + 1) (n - (k + 1))) = rw e row-was in
          let before-row : Agree S (row_at c.args.work.now (S * k)) (forward t v (boundary a) k) = row_of w rows k (omega (arith, inside, high)) in
          let backed :
          Backed (next_state t) (branch_metric t v k) c.args.course.kind.half c.loop-k.m c.args.work.now (S * k) b.metrics b.zero b.one =
          c.step_backwards-b.ensures (next_state t) (branch_metric t v k)
          (rw (own_is w k c.own_of.type_inv c.own_of.ensures, other_is w k c.from.type_inv c.from.ensures) (w.wings k)) in (
            λ s l. backed.metrics_are s l ∙ next_backward t v k w.halves (table_closed w.pass) (ending end a) n here after-row s l,
            λ ms gs es before.
                left_more t v _ _ _ _ n gs es (omega (arith, inside)) (so_far ms gs es before)
                (ap held (to_z-of_z (best-fits c).0) ∙ backed.zero_is ∙ meets w end a k here after-row before-row 0 (omega arith))
                (ap held (to_z-of_z (best-fits c).1) ∙ backed.one_is ∙ meets w end a k here after-row before-row 1 (omega arith))
                refl
                (c.raise_at.ensures (intrinsic t v k) ms)
                refl c.raise_at.auto.margins c.raise_at.auto.extrinsics,
          );
    }

pub returns : goal.returns
returns c =
    let e : c.loop-k.k ≡ c.args.from = omega (arith, c.loop-k.invariant.low, c.loop-k-test.false) in
    rw e at c.loop-k.invariant.swept
