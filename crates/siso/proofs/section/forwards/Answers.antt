use Rattle.std.specs.Prelude.{refl, List, ◌<◌, ℤ, pos, length, get_or, set}
use Rattle.std.proofs.Common.{sym, ◌∙◌, arith, rules, add-zero, SFits, to_z-of_z, length-set}
use Rattle.std.specs.Int.{w32}
use Rattle.metrics.specs.Words.{row}
use Rattle.metrics.specs.laws.Held.{unreached}
use Rattle.siso.specs.laws.Held.{target_of, branch_metric_of}
use Rattle.siso.proofs.Branch.{ready_branches, state_small}
use Rattle.siso.proofs.Steps.{advance_none, advanced}
use Rattle.siso.proofs.Turn.{local, leads0, leads1, part0, part1, metric0, metric1, small0, small1, local_small, brings, arrives}
use Rattle.siso.proofs.Working.{saved_none, saved_more}
use Rattle.siso.proofs.section.forwards.Goals as goal

pub loop-s-init : goal.loop-s-init
loop-s-init c = record { width = refl; best = λ r h. unreached 16 r h ∙ sym (advance_none _ _ _ r); saved = saved_none }

pub metric_at-requires-clause-within : goal.metric_at-requires-clause-within
metric_at-requires-clause-within c = part0 (ready_branches c.requires.ready c.word_metrics.auto.g c.word_metrics.ensures) c.loop-s-test.true

pub plus-y0-requires-clause-small : goal.plus-y0-requires-clause-small
plus-y0-requires-clause-small c = let x : SFits w32 (get_or c.args.m c.loop-s.s (pos 0)) = search rules in local_small x (state_small c.requires.held _ c.loop-s-test.true)

pub plus-y0-requires-clause-within : goal.plus-y0-requires-clause-within
plus-y0-requires-clause-within c =
    small0 (ready_branches c.requires.ready c.word_metrics.auto.g c.word_metrics.ensures) c.loop-s-test.true c.ranges.a c.metric_at.type_inv c.metric_at.ensures (omega arith)

pub metric_at-requires-in-loop-s-clause-within : goal.metric_at-requires-in-loop-s-clause-within
metric_at-requires-in-loop-s-clause-within c = part1 (ready_branches c.requires.ready c.word_metrics.auto.g c.word_metrics.ensures) c.loop-s-test.true

pub plus-y1-requires-clause-small : goal.plus-y1-requires-clause-small
plus-y1-requires-clause-small c = let x : SFits w32 (get_or c.args.m c.loop-s.s (pos 0)) = search rules in local_small x (state_small c.requires.held _ c.loop-s-test.true)

pub plus-y1-requires-clause-within : goal.plus-y1-requires-clause-within
plus-y1-requires-clause-within c =
    small1 (ready_branches c.requires.ready c.word_metrics.auto.g c.word_metrics.ensures) c.loop-s-test.true c.ranges.a c.metric_at-in-loop-s.type_inv c.metric_at-in-loop-s.ensures (omega arith)

pub bounds-out-t0-in-loop-s : goal.bounds-out-t0-in-loop-s
bounds-out-t0-in-loop-s c =
    let branches = ready_branches c.requires.ready c.word_metrics.auto.g c.word_metrics.ensures in
    rw c.from-t0.ensures (omega (arith, leads0 branches c.loop-s-test.true, branches.few))

pub bounds-out-t1 : goal.bounds-out-t1
bounds-out-t1 c =
    let branches = ready_branches c.requires.ready c.word_metrics.auto.g c.word_metrics.ensures in
    rw c.from-t1.ensures (omega (arith, leads1 branches c.loop-s-test.true, branches.few))

pub bounds-out-t1-in-loop-s : goal.bounds-out-t1-in-loop-s
bounds-out-t1-in-loop-s c =
    let branches = ready_branches c.requires.ready c.word_metrics.auto.g c.word_metrics.ensures in
    rw c.from-t1.ensures (omega (arith, leads1 branches c.loop-s-test.true, branches.few))

pub loop-s-preserved : goal.loop-s-preserved
loop-s-preserved c =
    let branches = ready_branches c.requires.ready c.word_metrics.auto.g c.word_metrics.ensures in
    let out = c.loop-s.out in
    let t0 = c.from-t0.result in
    let t1 = c.from-t1.result in
    let in0 : t0 < length out = omega (arith, c.from-t0.ensures, leads0 branches c.loop-s-test.true, branches.few, c.loop-s.invariant.width) in
    let in1 : t1 < length out = omega (arith, c.from-t1.ensures, leads1 branches c.loop-s-test.true, branches.few, c.loop-s.invariant.width) in
    let x : SFits w32 (get_or c.args.m c.loop-s.s (pos 0)) = search rules in
    let left : List ℤ = set out t0 (local c.larger.result) in
    let h0 : SFits w32 (get_or out t0 (pos 0)) = search rules in
    let h1 : SFits w32 (get_or left t1 (pos 0)) = search rules in
    let y0 = brings x c.plus-y0.result c.plus-y0.type_inv c.metric_at.result (metric0 branches c.loop-s-test.true c.ranges.a c.metric_at.type_inv c.metric_at.ensures) c.plus-y0.ensures in
    let y1 = brings x c.plus-y1.result c.plus-y1.type_inv c.metric_at-in-loop-s.result (metric1 branches c.loop-s-test.true c.ranges.a c.metric_at-in-loop-s.type_inv c.metric_at-in-loop-s.ensures) c.plus-y1.ensures in
    record {
      width = simp length-set c.loop-s.invariant.width;
      best = λ r l.
          advanced (target_of c.args.next.now) (branch_metric_of c.args.words.now c.word_metrics.new.g (local c.args.a)) (row c.args.m) out c.loop-s.s r t0 t1 _ _
          (c.loop-s.invariant.best r l)
          (rw (add-zero, c.from-t0.ensures)) in0 (arrives h0 c.larger.result c.larger.type_inv c.plus-y0.result y0 c.larger.ensures)
          c.from-t1.ensures (simp length-set in1) (arrives h1 c.larger-in-loop-s.result c.larger-in-loop-s.type_inv c.plus-y1.result y1 c.larger-in-loop-s.ensures);
      saved = rw (to_z-of_z x) (saved_more (omega arith) c.loop-s.invariant.saved);
    }
