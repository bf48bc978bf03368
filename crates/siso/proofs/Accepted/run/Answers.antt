use Rattle.std.specs.Prelude.{◌≡◌, refl, Bool, true, false, not, List, ℕ, ◌^◌, ◌≤◌, min, ℤ, pos, length, replicate}
use Rattle.std.proofs.Common.{sym, ap, ◌∙◌, arith}
use lib.Pow.{pow_mono}
use Rattle.lists.specs.laws.Lending.{front_long}
use Rattle.refusal.specs.Refusals.{check}
use Rattle.refusal.specs.declared.Refusal.TheVariants.{NoPath}
use Rattle.trellis.specs.Table.{Table}
use Rattle.trellis.specs.Path.{Values}
use Rattle.trellis.specs.Outcome.{pathless}
use Rattle.siso.specs.Decode.{Call, Lent}
use Rattle.siso.specs.Lent.{lone_result_of}
use Rattle.siso.specs.laws.Pass.{Pass, Written, ListsKept}
use Rattle.siso.specs.laws.Passed.{table_limits}
use Rattle.siso.specs.laws.Settled.{reached_is, settled_none, settled_done, walked}
use Rattle.siso.proofs.Accepted.run.Goals as goal

-- there are at most four outputs
module _ {t : Table} {n : ℕ} {v : Values} (p : Pass t n v) {m : ℕ} (e : m ≡ 2 ^ min t.outputs 4) where
  counted : m ≡ 2 ^ t.outputs
  counted = let few : min t.outputs 4 ≡ t.outputs = omega (arith, table_limits p) in rw few at e

  counts-few : m ≤ 16
  counts-few = rw counted (pow_mono (table_limits p).most_outputs)

-- whether there is a path decides
decided :
    (c : Call) (l : Lent) (b : Bool) {m : List ℕ} {g x work : List ℤ} → pathless c.table c.end c.sections ≡ not b → work ≡ replicate (length l.work) (pos 0)
    → (b ≡ false → ListsKept l.marks l.margins l.extrinsics m g x) → (b ≡ true → Written c.table c.values c.end c.sections m g x)
    → lone_result_of (check b NoPath) m g x work ≡ walked c l
unfolding check
decided c l false e zeros kept written = let lists = kept refl in settled_none c l e lists.marks lists.margins lists.extrinsics zeros
decided c l true e zeros kept written = let lists = written refl in settled_done c l e lists.marks_are lists.margins_are lists.extrinsics_are zeros

pub slice_bounds-of_words-end : goal.slice_bounds-of_words-end
slice_bounds-of_words-end c = counts-few (rw (← c.pass.view_is) at c.self.invariant) c.word_count.ensures

pub slice_bounds-g-end : goal.slice_bounds-g-end
slice_bounds-g-end c = front_long _ _ (counts-few (rw (← c.pass.view_is) at c.self.invariant) c.word_count.ensures)

pub gather_all-path-requires-clause-g_len : goal.gather_all-path-requires-clause-g_len
gather_all-path-requires-clause-g_len c =
    let p = rw (← c.pass.view_is) at c.self.invariant in
    rw (← c.self.view_is, ← c.pass.view_is) (sym (front_long _ _ (counts-few p c.word_count.ensures)) ∙ counted p c.word_count.ensures)

pub returns : goal.returns
returns c =
    let stage = c.gather_all-path.ensures.stage in
    rw c.check.ensures
    (decided c.args.self.now _ c.gather_all-path.result
    (reached_is (rw c.self.view_is at c.self.invariant) _ ∙ ap not (sym stage.reached))
    (c.clear.ensures ∙ ap (λ n. replicate n (pos 0)) c.gather_all-path.auto.work)
    c.gather_all-path.ensures.lists_kept
    (λ there. stage.written there refl))
