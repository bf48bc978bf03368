use mathlib.Core.Path.{◌≡◌, refl, sym, ap, ◌∙◌}
use mathlib.Core.Bool.{false, false≢true}
use mathlib.Core.List.{List}
use Prim.Native.Nat.{ℕ}
use native.Mathlib.Omega.{arith}
use lib.IntN.{ℤ}
use Rattle.lists.specs.Lists.{found}
use Rattle.trellis.specs.declared.End.{End}
use Rattle.trellis.specs.Table.{Table}
use Rattle.trellis.specs.Path.{Values}
use Rattle.trellis.specs.laws.Over.{over_none}
use Rattle.trellis.specs.laws.Sweeps.{reach_from}
use Rattle.butterfly.specs.laws.Flights.{Stage}
use Rattle.butterfly.proofs.starts.gather_all.Goals as goal

-- before the first start
no-stage : (t : Table) (v : Values) (end : End) (n : ℕ) (gs es : List ℤ) → Stage t v end n 0 false gs es
unfolding found
no-stage t v end n gs es = record {
  reached = sym (ap found (over_none 0 (reach_from t v end n) (λ s l. absurd (omega arith))));
  bests = λ q. absurd (false≢true q);
}

pub loop-start-init : goal.loop-start-init
loop-start-init c = record { stage = λ t w. no-stage _ _ _ _ _ _; unchanged = λ q. (refl, refl) }

pub loop-start-preserved : goal.loop-start-preserved
loop-start-preserved c =
    let more = c.gather_from-any.ensures in
    let inv = c.loop-start.invariant in
    record {
      stage = λ t w. more.stage t w (inv.stage t w);
      unchanged = λ none-now.
          let (margins-same, extrinsics-same, none_before) = more.margins_unchanged none-now in
          let (margins-kept, extrinsics-kept) = inv.unchanged none_before in
          (margins-same ∙ margins-kept, extrinsics-same ∙ extrinsics-kept);
    }

pub returns-clause-stage : goal.returns-clause-stage
returns-clause-stage c =
    let e : c.loop-start.start ≡ c.starts-start-end.result = omega (arith, c.loop-start.auto.start-end, c.loop-start-test.false) in
    rw (e, c.starts-start-end.ensures) at c.loop-start.invariant.stage

pub returns-clause-margins_unchanged : goal.returns-clause-margins_unchanged
returns-clause-margins_unchanged c = c.loop-start.invariant.unchanged
