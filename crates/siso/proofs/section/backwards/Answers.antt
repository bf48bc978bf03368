use Rattle.std.specs.Prelude.{◌≡◌, refl, ◌+◌, ◌*◌, pos, get_or}
use Rattle.std.proofs.Common.{sym, ap₂, ◌∙◌, arith, rules, add-zero, SFits, length-set}
use Rattle.std.specs.Int.{w32}
use Rattle.metrics.specs.Words.{held}
use Rattle.trellis.specs.Outcome.{larger}
use Rattle.trellis.specs.laws.Over.{over_zero}
use Rattle.trellis.specs.laws.Sweeps.{departing, retreat, passing}
use Rattle.siso.proofs.Branch.{ready_branches, state_small}
use Rattle.siso.proofs.Turn.{leads0, leads1, part0, part1, metric0, metric1, small0, small1, local_small, departs, passes}
use Rattle.siso.proofs.Rows.{kept, one_more}
use Rattle.siso.proofs.Steps.{over_more}
use Rattle.siso.proofs.section.backwards.Goals as goal

pub loop-s-init : goal.loop-s-init
loop-s-init c = record { width = refl; on = λ j h. absurd (omega arith); zeros = sym (over_zero _); ones = sym (over_zero _) }

pub metric_at-g0-requires-clause-within : goal.metric_at-g0-requires-clause-within
metric_at-g0-requires-clause-within c = part0 (ready_branches c.requires.ready c.word_metrics.auto.g c.word_metrics.ensures) c.loop-s-test.true

pub metric_at-g1-requires-clause-within : goal.metric_at-g1-requires-clause-within
metric_at-g1-requires-clause-within c = part1 (ready_branches c.requires.ready c.word_metrics.auto.g c.word_metrics.ensures) c.loop-s-test.true

pub plus-requires-clause-small : goal.plus-requires-clause-small
plus-requires-clause-small c =
    let branches = ready_branches c.requires.ready c.word_metrics.auto.g c.word_metrics.ensures in
    let m0 : SFits w32 (get_or c.args.m c.from.result (pos 0)) = search rules in
    local_small m0 (state_small c.requires.held _ (rw c.from.ensures (leads0 branches c.loop-s-test.true)))

pub plus-requires-clause-within : goal.plus-requires-clause-within
plus-requires-clause-within c =
    small0 (ready_branches c.requires.ready c.word_metrics.auto.g c.word_metrics.ensures) c.loop-s-test.true c.ranges.a c.metric_at-g0.type_inv c.metric_at-g0.ensures (omega arith)

pub plus-requires-in-loop-s-clause-small : goal.plus-requires-in-loop-s-clause-small
plus-requires-in-loop-s-clause-small c =
    let branches = ready_branches c.requires.ready c.word_metrics.auto.g c.word_metrics.ensures in
    let m1 : SFits w32 (get_or c.args.m c.from-in-loop-s.result (pos 0)) = search rules in
    local_small m1 (state_small c.requires.held _ (rw c.from-in-loop-s.ensures (leads1 branches c.loop-s-test.true)))

pub plus-requires-in-loop-s-clause-within : goal.plus-requires-in-loop-s-clause-within
plus-requires-in-loop-s-clause-within c =
    small1 (ready_branches c.requires.ready c.word_metrics.auto.g c.word_metrics.ensures) c.loop-s-test.true c.ranges.a c.metric_at-g1.type_inv c.metric_at-g1.ensures (omega arith)

pub through-requires-clause-small : goal.through-requires-clause-small
through-requires-clause-small c =
    let f : SFits w32 (get_or c.args.work.now (c.args.at + c.loop-s.s) (pos 0)) = search rules in
    local_small f (c.requires.held_2.small _ c.loop-s-test.true)

pub through-requires-clause-within : goal.through-requires-clause-within
through-requires-clause-within c =
    small0 (ready_branches c.requires.ready c.word_metrics.auto.g c.word_metrics.ensures) c.loop-s-test.true c.ranges.a c.metric_at-g0.type_inv c.metric_at-g0.ensures (omega arith)

pub through-requires-clause-small_2 : goal.through-requires-clause-small_2
through-requires-clause-small_2 c =
    let branches = ready_branches c.requires.ready c.word_metrics.auto.g c.word_metrics.ensures in
    let m0 : SFits w32 (get_or c.args.m c.from.result (pos 0)) = search rules in
    local_small m0 (c.requires.held.small _ (rw c.from.ensures (leads0 branches c.loop-s-test.true)))

pub through-requires-in-loop-s-clause-small : goal.through-requires-in-loop-s-clause-small
through-requires-in-loop-s-clause-small c =
    let f : SFits w32 (get_or c.args.work.now (c.args.at + c.loop-s.s) (pos 0)) = search rules in
    local_small f (c.requires.held_2.small _ c.loop-s-test.true)

pub through-requires-in-loop-s-clause-within : goal.through-requires-in-loop-s-clause-within
through-requires-in-loop-s-clause-within c =
    small1 (ready_branches c.requires.ready c.word_metrics.auto.g c.word_metrics.ensures) c.loop-s-test.true c.ranges.a c.metric_at-g1.type_inv c.metric_at-g1.ensures (omega arith)

pub through-requires-in-loop-s-clause-small_2 : goal.through-requires-in-loop-s-clause-small_2
through-requires-in-loop-s-clause-small_2 c =
    let branches = ready_branches c.requires.ready c.word_metrics.auto.g c.word_metrics.ensures in
    let m1 : SFits w32 (get_or c.args.m c.from-in-loop-s.result (pos 0)) = search rules in
    local_small m1 (c.requires.held.small _ (rw c.from-in-loop-s.ensures (leads1 branches c.loop-s-test.true)))

pub loop-s-preserved : goal.loop-s-preserved
unfolding retreat departing passing
loop-s-preserved c =
    let branches = ready_branches c.requires.ready c.word_metrics.auto.g c.word_metrics.ensures in
    let m = c.args.m in
    let to0 : c.from.result ≡ get_or c.args.next.now (2 * c.loop-s.s + 0) 0 = rw add-zero c.from.ensures in
    let to1 = c.from-in-loop-s.ensures in
    let f : SFits w32 (get_or c.args.work.now (c.args.at + c.loop-s.s) (pos 0)) = search rules in
    let m0 : SFits w32 (get_or m c.from.result (pos 0)) = search rules in
    let m1 : SFits w32 (get_or m c.from-in-loop-s.result (pos 0)) = search rules in
    let g0 = metric0 branches c.loop-s-test.true c.ranges.a c.metric_at-g0.type_inv c.metric_at-g0.ensures in
    let g1 = metric1 branches c.loop-s-test.true c.ranges.a c.metric_at-g1.type_inv c.metric_at-g1.ensures in
    let on0 = departs m to0 m0 c.metric_at-g0.result g0 c.plus.result c.plus.type_inv c.plus.ensures in
    let on1 = departs m to1 m1 c.metric_at-g1.result g1 c.plus-in-loop-s.result c.plus-in-loop-s.type_inv c.plus-in-loop-s.ensures in
    let by0 = passes m to0 m0 c.metric_at-g0.result g0 c.through.result c.through.type_inv f c.through.ensures in
    let by1 = passes m to1 m1 c.metric_at-g1.result g1 c.through-in-loop-s.result c.through-in-loop-s.type_inv f c.through-in-loop-s.ensures in
    record {
      width = simp length-set c.loop-s.invariant.width;
      on = one_more held c.loop-s.out c.loop-s.s _ (pos 0) (omega (arith, c.loop-s.invariant.width, branches.few, c.loop-s-test.true)) c.loop-s.invariant.on
          (kept c.larger.result c.larger.type_inv (c.larger.ensures ∙ ap₂ larger on0 on1));
      zeros = kept c.larger-zero.result c.larger-zero.type_inv (c.larger-zero.ensures ∙ ap₂ larger c.loop-s.invariant.zeros by0 ∙ sym (over_more c.loop-s.s _));
      ones = kept c.larger-one.result c.larger-one.type_inv (c.larger-one.ensures ∙ ap₂ larger c.loop-s.invariant.ones by1 ∙ sym (over_more c.loop-s.s _));
    }
