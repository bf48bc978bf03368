use Rattle.std.specs.Prelude.{◌≡◌, refl, List, ℕ, ◌<◌, ◌≤◌, min, ℤ}
use Rattle.std.proofs.Common.{sym, ap, ap₂, ◌∙◌, arith, add-one, to_z-of_z}
use native.Mathlib.Nat.{add-sub_cancel_left}
use Rattle.std.specs.Int.{w32}
use Rattle.integers.specs.laws.Linear.{fits_of}
use Rattle.lists.specs.Lists.{found}
use Rattle.trellis.specs.declared.End.{End}
use Rattle.trellis.specs.Table.{Table}
use Rattle.trellis.specs.Path.{Values, apriori_at}
use Rattle.trellis.specs.laws.MaxPlus.{plus}
use Rattle.trellis.specs.laws.Over.{over, over_ext}
use Rattle.trellis.specs.laws.Sweeps.{boundary, ending, forward, forward_start, reach, reach_from}
use Rattle.metrics.specs.Words.{row}
use Rattle.siso.specs.laws.Pass.{Pass}
use Rattle.siso.specs.laws.Passed.{table_limits}
use Rattle.siso.specs.laws.Gathered.{section_ready, gathered}
use Rattle.siso.specs.laws.Steps.{Agree, next_forward, forward_held}
use Rattle.siso.proofs.Places.{apriori_read}
use Rattle.siso.proofs.ForwardRows.{rows_none, rows_more}
use Rattle.siso.proofs.Accepted.forward.Goals as goal

-- the row that the sweep starts with
row-started :
    (t : Table) (v : Values) (m : List ℤ) (a states : ℕ) → states ≤ 16 → ((s : ℕ) → s < 16 → row m s ≡ boundary a s)
    → Agree states (row m) (forward t v (boundary a) 0)
row-started t v m a states few h s l = h s (omega arith) ∙ sym (ap (λ f. f s) (forward_start t v (boundary a)))

-- the two rows that meet are the definition's
met :
    {t : Table} {v : Values} {n : ℕ} (p : Pass t n v) (end : End) (a : ℕ) (m last : List ℤ) → Agree t.states (row m) (forward t v (boundary a) n)
    → ((s : ℕ) → s < 16 → row last s ≡ ending end a s)
    → found (over (min t.states 16) (λ s. plus (row m s) (row last s))) ≡ found (reach_from t v end n a)
unfolding reach_from reach
met {t} p end a m last here there =
    let all : min t.states 16 ≡ t.states = omega (arith, table_limits p) in
    rw all (ap found (over_ext _ (λ s l. ap₂ plus (here s l) (there s (omega (arith, table_limits p))))))

pub loop-k-init : goal.loop-k-init
loop-k-init c = record {
  here = row-started _ _ c.beginning-m.result _ _ (table_limits (rw c.self.view_is at c.self.invariant)).most_states c.beginning-m.ensures;
  rows = rows_none;
}

pub forwards-after-requires-clause-ready : goal.forwards-after-requires-clause-ready
unfolding apriori_at
forwards-after-requires-clause-ready c =
    let p = rw (← c.pass.view_is) at c.self.invariant in
    let a-is = c.from.ensures ∙ to_z-of_z (apriori_read p c.loop-k.k) in
    rw (add-sub_cancel_left, to_z-of_z {w = w32} (fits_of c.from.type_inv), a-is)
    (section_ready p c.loop-k-test.true (c.loop-k.auto.g ∙ (rw (← c.self.view_is, ← c.pass.view_is) at c.requires.g_len)))

pub forwards-after-requires-clause-held : goal.forwards-after-requires-clause-held
forwards-after-requires-clause-held c =
    let p = rw (← c.pass.view_is) at c.self.invariant in
    forward_held p _ c.loop-k.k (omega arith) (rw (← c.self.view_is, ← c.pass.view_is) at c.loop-k.invariant.here)

pub loop-k-preserved : goal.loop-k-preserved
unfolding apriori_at
loop-k-preserved c =
    let p = rw (← c.pass.view_is) at c.self.invariant in
    let few = (table_limits p).most_states in
    let a-is = c.from.ensures ∙ to_z-of_z (apriori_read p c.loop-k.k) in
    let inv = rw (← c.self.view_is, ← c.pass.view_is) at c.loop-k.invariant in
    let words_long = c.forwards-after.auto.g ∙ c.loop-k.auto.g ∙ (rw (← c.self.view_is, ← c.pass.view_is) at c.requires.g_len) in
    let section = gathered p c.loop-k-test.true _ words_long (rw add-sub_cancel_left at c.forwards-after.ensures.word_metrics) refl in
    rw (← c.self.view_is, ← c.pass.view_is) (record {
      here = λ s l. rw add-one
          ((rw (to_z-of_z {w = w32} (fits_of c.from.type_inv), a-is) at (c.forwards-after.ensures.by_index s (omega arith)))
          ∙ next_forward p section c.args.start inv.here s);
      rows = rows_more inv.here c.forwards-after.ensures.saved inv.rows;
    })

pub returns-clause-value : goal.returns-clause-value
returns-clause-value c =
    let p = rw (← c.pass.view_is) at c.self.invariant in
    let inv = rw (← c.self.view_is, ← c.pass.view_is) at c.loop-k.invariant in
    let all : c.loop-k.k ≡ c.pass.inside.format.sections = omega arith in
    rw (← c.self.view_is, ← c.pass.view_is) (c.arrived.ensures ∙ met p c.pass.inside.format.end c.args.start c.loop-k.m c.ending.result (rw all at inv.here) c.ending.ensures)
