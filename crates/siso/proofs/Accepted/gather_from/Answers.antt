use Rattle.std.specs.Prelude.{◌≡◌, refl, Bool, true, false, not, ◌||◌, List, ℕ, ◌+◌, ◌<◌, ℤ}
use Rattle.std.proofs.Common.{sym, ap, ap₂, ◌∙◌, arith, eqb-true, eq-eqb, ne_eqb}
use Rattle.std.proofs.Math.Option.{Option}
use Rattle.std.proofs.lemmas.Bool.{false≢true}
use Rattle.lists.specs.Lists.{found}
use Rattle.trellis.specs.declared.End.{End}
use Rattle.trellis.specs.Table.{Table}
use Rattle.trellis.specs.Path.{Values}
use Rattle.trellis.specs.laws.Over.{over}
use Rattle.trellis.specs.laws.Sweeps.{starts, reach_from}
use Rattle.siso.specs.Decode.{Call}
use Rattle.siso.specs.laws.Pass.{Pass, Bests, Last, Stage}
use Rattle.siso.specs.laws.Passed.{table_limits, start_below}
use Rattle.siso.specs.laws.Settled.{reached_is}
use Rattle.siso.proofs.Gathering.{reached_more, none_gathered}
use Rattle.siso.proofs.Accepted.gather_from.Goals as goal

-- one of the states up to this one has a path
some-path : (f : ℕ → Option ℤ) (a : ℕ) {any path : Bool} → any ≡ found (over a f) → path ≡ found (f a) → (any || path) ≡ found (over (a + 1) f)
some-path f a e g = ap₂ ◌||◌ e g ∙ sym (reached_more f a)

-- ---- what a stage tells

module _ {t : Table} {n : ℕ} {v : Values} (p : Pass t n v) (end : End) (a : ℕ) where
  -- the best metrics so far; there are none at first
  bests-so-far :
      {ms : List ℕ} {gs es : List ℤ} (any : Bool) → Stage t v end n a any ms gs es → a < starts t.states end → Bests t v end n a (not any) gs es
  bests-so-far true stage within = stage.bests refl within
  bests-so-far {ms} {gs} {es} false stage within = none_gathered p end a gs es within (sym stage.reached) stage.margins_long stage.extrinsics_long

  -- after the last start with a path there is one
  last-start : a + 1 ≡ starts t.states end → found (over (a + 1) (reach_from t v end n)) ≡ true → Last t end n a
  last-start none_left reached = record {
    none_left = none_left;
    path = reached_is p end ∙ ap (λ m. not (found (over m (reach_from t v end n)))) (sym none_left) ∙ ap not reached;
  }

pub returns-then-not-found-clause-stage_2 : goal.returns-then-not-found-clause-stage_2
returns-then-not-found-clause-stage_2 c =
    let stage = c.requires.stage in
    record {
      marks_long = stage.marks_long;
      margins_long = stage.margins_long;
      extrinsics_long = stage.extrinsics_long;
      reached = sym c.if-not-found.true ∙ some-path _ c.args.start stage.reached c.forward.ensures.value;
      bests = λ q l. absurd (false≢true q);
      written = λ q l. absurd (false≢true q);
    }

pub overflow_add-last : goal.overflow_add-last
overflow_add-last c = omega (arith, start_below (rw c.self.view_is at c.self.invariant) _ c.requires.start_bound, (table_limits (rw c.self.view_is at c.self.invariant)).most_states)

pub gather-requires-clause-bests : goal.gather-requires-clause-bests
gather-requires-clause-bests c = bests-so-far (rw c.self.view_is at c.self.invariant) _ _ c.args.any c.requires.stage c.requires.start_bound

pub gather-requires-clause-last : goal.gather-requires-clause-last
gather-requires-clause-last c is_last =
    let count = c.starts.ensures ∙ ap (λ (x : Call). starts x.table.states x.end) (c.pass.view_is ∙ c.self.view_is) in
    last-start (rw c.self.view_is at c.self.invariant) _ _ (eqb-true _ _ is_last ∙ count)
    (sym (some-path _ c.args.start c.requires.stage.reached c.forward.ensures.value) ∙ c.if-not-found.false)

pub returns-clause-stage_2 : goal.returns-clause-stage_2
returns-clause-stage_2 c =
    let stage = c.requires.stage in
    let count = c.starts.ensures ∙ ap (λ (x : Call). starts x.table.states x.end) (c.pass.view_is ∙ c.self.view_is) in
    record {
      marks_long = c.gather.auto.marks ∙ stage.marks_long;
      margins_long = c.gather.auto.margins ∙ stage.margins_long;
      extrinsics_long = c.gather.auto.extrinsics ∙ stage.extrinsics_long;
      reached = sym c.if-not-found.false ∙ some-path _ c.args.start stage.reached c.forward.ensures.value;
      bests = λ q l. c.gather.ensures.bests_2 (ne_eqb (c.args.start + 1) c.starts.result (λ same. omega (arith, same, count)));
      written = λ q same. c.gather.ensures.written (eq-eqb _ _ (same ∙ sym count));
    }
