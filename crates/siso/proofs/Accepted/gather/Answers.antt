use Rattle.std.specs.Prelude.{◌≡◌, refl, suc, ◌-◌, ◌<◌, ◌*◌}
use Rattle.std.proofs.Common.{ap₂, ◌∙◌, arith, rules, SFits, to_z-of_z}
use native.Mathlib.Nat.{add-sub_cancel_left}
use Rattle.std.specs.Int.{w32}
use Rattle.integers.specs.laws.Linear.{fits_of}
use Rattle.trellis.specs.Path.{apriori_at}
use Rattle.trellis.specs.laws.Sweeps.{ending, backward_end}
use Rattle.metrics.specs.Words.{row, row_at}
use Rattle.siso.specs.Lent.{values_of, pass_table}
use Rattle.siso.specs.laws.Between.{Between, back_is, best_is}
use Rattle.siso.specs.laws.Gathered.{section_ready, gathered}
use Rattle.siso.specs.laws.Passed.{table_limits}
use Rattle.siso.specs.laws.Steps.{forward_held, backward_held}
use Rattle.siso.specs.laws.Told.{raised}
use Rattle.siso.proofs.Gathering.{left_none, left_more, zero_more, one_more, all_gathered, all_written}
use Rattle.siso.proofs.Places.{channel_place, apriori_read, channel_read}
use Rattle.siso.proofs.Settled.{told_is, values_small, told_within, tellable}
use Rattle.siso.proofs.Accepted.gather.Goals as goal

pub loop-k-init : goal.loop-k-init
loop-k-init c =
    let p = rw (← c.pass.view_is) at c.self.invariant in
    let few = (table_limits p).most_states in
    let bests = rw (← c.self.view_is, ← c.pass.view_is) at c.requires.bests in
    let marks_long = rw (← c.self.view_is, ← c.pass.view_is) at c.requires.marks_len in
    rw (← c.self.view_is, ← c.pass.view_is) (record {
      here = λ s l. rw (backward_end _ _ (ending _ _) _) (c.ending-m.ensures s (omega arith));
      lists = left_none _ _ _ _ _ _ _ _ _ _ marks_long bests.zeros_long bests.ones_long;
    })

pub backwards-b-requires-clause-ready : goal.backwards-b-requires-clause-ready
unfolding apriori_at
backwards-b-requires-clause-ready c =
    let p = rw (← c.pass.view_is) at c.self.invariant in
    let inv = rw (← c.self.view_is, ← c.pass.view_is) at c.loop-k.invariant in
    let k = c.loop-k.k - 1 in
    let inside : k < c.pass.inside.format.sections = omega arith in
    let a-is = c.from.ensures ∙ to_z-of_z (apriori_read p k) in
    rw (add-sub_cancel_left, to_z-of_z {w = w32} (fits_of c.from.type_inv), a-is)
    (section_ready p inside (c.loop-k.auto.g ∙ (rw (← c.self.view_is, ← c.pass.view_is) at c.requires.g_len)))

pub backwards-b-requires-clause-held : goal.backwards-b-requires-clause-held
backwards-b-requires-clause-held c =
    let p = rw (← c.pass.view_is) at c.self.invariant in
    let inv = rw (← c.self.view_is, ← c.pass.view_is) at c.loop-k.invariant in
    backward_held p c.args.start c.loop-k.k c.pass.inside.format.end inv.here

pub backwards-b-requires-clause-held_2 : goal.backwards-b-requires-clause-held_2
backwards-b-requires-clause-held_2 c =
    let p = rw (← c.pass.view_is) at c.self.invariant in
    let rows = rw (← c.self.view_is, ← c.pass.view_is) at c.requires.forward in
    forward_held p c.args.start (c.loop-k.k - 1) (omega arith) (λ s l. rows.rows (c.loop-k.k - 1) s (omega arith) l)

pub bounds-pass-inside-from : goal.bounds-pass-inside-from
bounds-pass-inside-from c =
    let p = rw (← c.pass.view_is) at c.self.invariant in
    let inv = rw (← c.self.view_is, ← c.pass.view_is) at c.loop-k.invariant in
    let k = c.loop-k.k - 1 in
    let inside : k < c.pass.inside.format.sections = omega arith in
    omega (arith, channel_place p inside)

pub gather_at-requires-clause-within : goal.gather_at-requires-clause-within
unfolding apriori_at
gather_at-requires-clause-within c =
    let p = rw (← c.pass.view_is) at c.self.invariant in
    let inv = rw (← c.self.view_is, ← c.pass.view_is) at c.loop-k.invariant in
    let k = c.loop-k.k - 1 in
    let inside : k < c.pass.inside.format.sections = omega arith in
    let told-sum = rw (to_z-of_z (apriori_read p k), to_z-of_z (channel_read p k)) at c.intrinsic-told.ensures in
    let (y-small, a_small) = values_small p k in
    rw (to_z-of_z {w = w32} (fits_of c.intrinsic-told.type_inv), told-sum) (told_within _ a_small y-small)

pub gather_at-requires-clause-tellable : goal.gather_at-requires-clause-tellable
unfolding apriori_at
gather_at-requires-clause-tellable c is_last =
    let p = rw (← c.pass.view_is) at c.self.invariant in
    let inv = rw (← c.self.view_is, ← c.pass.view_is) at c.loop-k.invariant in
    let k = c.loop-k.k - 1 in
    let inside : k < c.pass.inside.format.sections = omega arith in
    let a-is = c.from.ensures ∙ to_z-of_z (apriori_read p k) in
    let e = c.pass.inside.format.end in
    let rows = rw (← c.self.view_is, ← c.pass.view_is) at c.requires.forward in
    let words_long = c.backwards-b.auto.g ∙ c.loop-k.auto.g ∙ (rw (← c.self.view_is, ← c.pass.view_is) at c.requires.g_len) in
    let suc-k : suc k ≡ c.loop-k.k = omega arith in
    let sides : Between (pass_table c.pass.inside.format c.pass.inside.next.now c.pass.inside.words.now) (values_of c.pass.inside.channel.now c.pass.inside.apriori.now)
    e c.args.start c.pass.inside.format.sections k c.backwards-b.new.g
    (row_at c.args.work.now (c.pass.inside.format.states * k)) (row c.loop-k.m) = record {
      values = gathered p inside _ words_long (rw add-sub_cancel_left at c.backwards-b.ensures.word_metrics) refl;
      before = λ s l. rows.rows k s inside l;
      after = rw suc-k inv.here;
    } in
    let z : SFits w32 c.backwards-b.result.zero = search rules in
    let o : SFits w32 c.backwards-b.result.one = search rules in
    let zero-met = (rw (to_z-of_z {w = w32} (fits_of c.from.type_inv), a-is) at c.backwards-b.ensures.zero_value) ∙ best_is p inside sides 0 (omega arith) in
    let one-met = (rw (to_z-of_z {w = w32} (fits_of c.from.type_inv), a-is) at c.backwards-b.ensures.one_value) ∙ best_is p inside sides 1 (omega arith) in
    let known = rw (← c.self.view_is, ← c.pass.view_is) at c.requires.bests in
    let last = rw (← c.self.view_is, ← c.pass.view_is) at (c.requires.last is_last) in
    rw (to_z-of_z z, to_z-of_z o)
    (tellable p e last inside
    (ap₂ (raised c.args.first) (inv.lists.margin_before k (omega arith)) zero-met ∙ zero_more p known k inside)
    (ap₂ (raised c.args.first) (inv.lists.extrinsic_before k (omega arith)) one-met ∙ one_more p known k inside))

pub loop-k-preserved : goal.loop-k-preserved
unfolding apriori_at
loop-k-preserved c =
    let p = rw (← c.pass.view_is) at c.self.invariant in
    let inv = rw (← c.self.view_is, ← c.pass.view_is) at c.loop-k.invariant in
    let k = c.loop-k.k - 1 in
    let inside : k < c.pass.inside.format.sections = omega arith in
    let a-is = c.from.ensures ∙ to_z-of_z (apriori_read p k) in
    let e = c.pass.inside.format.end in
    let rows = rw (← c.self.view_is, ← c.pass.view_is) at c.requires.forward in
    let words_long = c.backwards-b.auto.g ∙ c.loop-k.auto.g ∙ (rw (← c.self.view_is, ← c.pass.view_is) at c.requires.g_len) in
    let suc-k : suc k ≡ c.loop-k.k = omega arith in
    let sides : Between (pass_table c.pass.inside.format c.pass.inside.next.now c.pass.inside.words.now) (values_of c.pass.inside.channel.now c.pass.inside.apriori.now)
    e c.args.start c.pass.inside.format.sections k c.backwards-b.new.g
    (row_at c.args.work.now (c.pass.inside.format.states * k)) (row c.loop-k.m) = record {
      values = gathered p inside _ words_long (rw add-sub_cancel_left at c.backwards-b.ensures.word_metrics) refl;
      before = λ s l. rows.rows k s inside l;
      after = rw suc-k inv.here;
    } in
    let z : SFits w32 c.backwards-b.result.zero = search rules in
    let o : SFits w32 c.backwards-b.result.one = search rules in
    let zero-met = (rw (to_z-of_z {w = w32} (fits_of c.from.type_inv), a-is) at c.backwards-b.ensures.zero_value) ∙ best_is p inside sides 0 (omega arith) in
    let one-met = (rw (to_z-of_z {w = w32} (fits_of c.from.type_inv), a-is) at c.backwards-b.ensures.one_value) ∙ best_is p inside sides 1 (omega arith) in
    let told-sum = rw (to_z-of_z (apriori_read p k), to_z-of_z (channel_read p k)) at c.intrinsic-told.ensures in
    let told = told-sum ∙ told_is _ _ k c.is_systematic-sys.ensures in
    let at = rw (to_z-of_z z, to_z-of_z o, to_z-of_z {w = w32} (fits_of c.intrinsic-told.type_inv)) at c.gather_at.ensures in
    rw (← c.self.view_is, ← c.pass.view_is) (record {
      here = λ s l. (rw (to_z-of_z {w = w32} (fits_of c.from.type_inv), a-is) at (c.backwards-b.ensures.by_index s l)) ∙ back_is p inside sides s l;
      lists = left_more _ _ _ _ _ _ _ _ _ (omega arith) inv.lists zero-met one-met told at c.gather_at.auto.marks c.gather_at.auto.margins c.gather_at.auto.extrinsics;
    })

pub returns-clause-bests_2 : goal.returns-clause-bests_2
returns-clause-bests_2 c =
    let p = rw (← c.pass.view_is) at c.self.invariant in
    let inv = rw (← c.self.view_is, ← c.pass.view_is) at c.loop-k.invariant in
    let known = rw (← c.self.view_is, ← c.pass.view_is) at c.requires.bests in
    rw (← c.self.view_is, ← c.pass.view_is) (all_gathered p known (omega arith) inv.lists)

pub returns-clause-written : goal.returns-clause-written
returns-clause-written c is_last =
    let p = rw (← c.pass.view_is) at c.self.invariant in
    let inv = rw (← c.self.view_is, ← c.pass.view_is) at c.loop-k.invariant in
    let known = rw (← c.self.view_is, ← c.pass.view_is) at c.requires.bests in
    let last = rw (← c.self.view_is, ← c.pass.view_is) at (c.requires.last is_last) in
    rw (← c.self.view_is, ← c.pass.view_is) (all_written p known (omega arith) inv.lists is_last last)
