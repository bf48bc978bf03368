use mathlib.Core.Path.{◌≡◌, refl, sym, ap, ap₂, ◌∙◌}
use mathlib.Core.Bool.{Bool, true, false, not, ◌||◌, false≢true}
use mathlib.Core.List.{List}
use Prim.Native.Nat.{ℕ, min, ◌+◌, ◌<◌}
use native.Mathlib.Omega.{arith}
use lib.IntN.{ℤ}
use lib.ListN.{length}
use Rattle.lists.specs.Lists.{found}
use Rattle.trellis.specs.declared.End.{End}
use Rattle.trellis.specs.Table.{Table}
use Rattle.trellis.specs.Path.{Values}
use Rattle.trellis.specs.laws.MaxPlus.{plus}
use Rattle.trellis.specs.laws.Over.{over, over_ext}
use Rattle.trellis.specs.laws.Sweeps.{boundary, ending, forward, starts, reach, reach_from}
use Rattle.metrics.specs.Words.{row}
use Rattle.siso.specs.laws.Pass.{Bests}
use Rattle.siso.specs.laws.Passed.{table_limits}
use Rattle.siso.specs.laws.Steps.{Agree}
use Rattle.siso.proofs.Gathering.{reached_more, none_gathered}
use Rattle.butterfly.specs.laws.Flights.{Winged, Stage}
use Rattle.butterfly.proofs.starts.gather_from.Goals as goal
use Rattle.butterfly.proofs.starts.gather_from.Goals.{then-any, else-any}

-- ---- of every table with these wings

module _ {t : Table} {n : ℕ} {v : Values} {half : ℕ} {signs : List ℤ} (w : Winged t n v half signs) (end : End) (a : ℕ) where
  -- whether the last row meets the end's tells whether there is a path from this start
  met :
      (m last : List ℤ) → Agree (half + half) (row m) (forward t v (boundary a) n) → ((s : ℕ) → s < 16 → row last s ≡ ending end a s)
      → found (over (min (half + half) 16) (λ s. plus (row m s) (row last s))) ≡ found (reach_from t v end n a)
  unfolding reach_from reach
  met m last here there =
      let all : min (half + half) 16 ≡ t.states = omega (arith, w.halves, table_limits w.pass) in
      rw all (ap found (over_ext _ (λ s l. ap₂ plus (here s (omega (arith, w.halves))) (there s (omega (arith, table_limits w.pass))))))

  -- whether one of the states up to this one has a path
  some-path :
      {some any path : Bool} {gs es : List ℤ} → some ≡ (any || path) → Stage t v end n a any gs es → path ≡ found (reach_from t v end n a)
      → some ≡ found (over (a + 1) (reach_from t v end n))
  some-path some-is stage path-is = some-is ∙ ap₂ ◌||◌ stage.reached path-is ∙ sym (reached_more _ a)

  -- the best metrics so far; there are none at first
  bests-so-far :
      {gs es : List ℤ} (any : Bool) → Stage t v end n a any gs es → a < starts (half + half) end → length gs ≡ n → length es ≡ n
      → Bests t v end n a (not any) gs es
  bests-so-far true stage within gs-long es-long = stage.bests refl
  bests-so-far {gs} {es} false stage within gs-long es-long =
      none_gathered w.pass end a gs es (omega (arith, within, ap (λ m. starts m end) w.halves)) (sym stage.reached) gs-long es-long

-- ---- the function

pub gather_back-requires-clause-returning : goal.gather_back-requires-clause-returning
gather_back-requires-clause-returning c =
    let flight = c.requires.flight in
    let reached = c.forward_all-front.ensures flight.table flight.winged in
    record {
      flight = flight;
      end = c.args.end;
      start = c.args.start;
      rows = reached.rows;
      reached = reached.reached;
      row_is = λ s l. c.ending-last.ensures s (omega (arith, l, flight.known.few));
    }

pub returns-then-some-clause-stage : goal.returns-then-some-clause-stage
returns-then-some-clause-stage c t w stage =
    let some-is : c.if-any.some ≡ (c.args.any || c.arrived-path.result) =
    elim c.if-any.branch [ then-any b ↦ b.some-is ∙ rw b.if-any.true | else-any b ↦ b.some-is ∙ rw b.if-any.false ] in
    let reached = c.forward_all-front.ensures t w in
    let path-is = c.arrived-path.ensures ∙ met w c.args.end c.args.start c.forward_all-front.result.metrics c.ending-last.result reached.row_is c.ending-last.ensures in
    record {
      reached = some-path w c.args.end c.args.start some-is stage path-is;
      bests = λ q.
          c.gather_back.ensures t c.args.end c.args.start w reached.rows (λ s l. c.ending-last.ensures s (omega (arith, l, c.requires.flight.known.few)))
          (bests-so-far w c.args.end c.args.start c.args.any stage c.requires.start_bound c.requires.margins_len c.requires.extrinsics_len);
    }

pub returns-else-some-clause-stage : goal.returns-else-some-clause-stage
returns-else-some-clause-stage c t w stage =
    let some-is : c.if-any.some ≡ (c.args.any || c.arrived-path.result) =
    elim c.if-any.branch [ then-any b ↦ b.some-is ∙ rw b.if-any.true | else-any b ↦ b.some-is ∙ rw b.if-any.false ] in
    let reached = c.forward_all-front.ensures t w in
    let path-is = c.arrived-path.ensures ∙ met w c.args.end c.args.start c.forward_all-front.result.metrics c.ending-last.result reached.row_is c.ending-last.ensures in
    record {
      reached = some-path w c.args.end c.args.start some-is stage path-is;
      bests = λ q. absurd (false≢true (sym c.if-some.false ∙ q));
    }
