use Rattle.std.specs.Prelude.{◌≡◌, refl, Bool, true, false, not, List, ℕ, ◌+◌, ◌*◌, ◌-◌, ◌/◌, ◌≤◌, ℤ, pos, get_or, replicate, Err}
use Rattle.std.proofs.Common.{sym, ap, ◌∙◌, arith}
use Rattle.integers.specs.laws.Bounds.{Within}
use Rattle.refusal.specs.Refusals.{Reply, check}
use Rattle.refusal.specs.declared.Refusal.{Refusal}
use Rattle.refusal.specs.declared.Refusal.TheVariants.{NoPath}
use Rattle.refusal.specs.laws.Checks.{refused_is_not_done}
use Rattle.refusal.specs.laws.Passing.{handed_on, check_shows}
use Rattle.trellis.specs.declared.End.{End}
use Rattle.trellis.specs.declared.End.TheVariants.{Zero, Open, Ring}
use Rattle.trellis.specs.Table.{Table}
use Rattle.trellis.specs.Path.{Values, apriori_at, channel_at}
use Rattle.trellis.specs.Outcome.{pathless}
use Rattle.trellis.specs.laws.Sweeps.{starts}
use Rattle.siso.specs.Lent.{pass_table}
use Rattle.siso.specs.laws.Pass.{Pass, Bests, Last}
use Rattle.siso.specs.laws.Passed.{table_limits, few_sections, values_bounded}
use Rattle.siso.specs.laws.Settled.{reached_is, settled_none, settled_done}
use Rattle.butterfly.specs.laws.Flights.{Winged, Stage}
use Rattle.butterfly.specs.laws.Tables.{IsButterfly, AreSigns, table_wings}
use Rattle.butterfly.proofs.Told.{all_tellable, all_told}
use Rattle.butterfly.proofs.pass.run.Goals as goal

-- a pass over a butterfly, by the signs of its wings
flies :
    {t : Table} {n : ℕ} {v : Values} {half : ℕ} {signs : List ℤ} → IsButterfly t.states t.outputs t.next t.words → Pass t n v
    → AreSigns t.next t.words (t.states / 2) signs → half ≡ t.states / 2 → Winged t n v half signs
flies {t} {v = v} b p are e = rw e (record {
  pass = p;
  halves = b.steps.halves;
  two_outputs = b.two_outputs;
  wings = λ k. table_wings t v k b.two_outputs b.is_wing are;
})

-- ---- after the sweeps

-- there is a state to start in, and so a last one
some-start : (states : ℕ) (end : End) → 1 ≤ states → 1 ≤ starts states end
unfolding starts
some-start states Zero h = omega arith
some-start states Open h = omega arith
some-start states Ring h = h

module _ {t : Table} {n : ℕ} {v : Values} (p : Pass t n v) (end : End) {path : Bool} {gs es : List ℤ} (stage : Stage t v end n (starts t.states end) path gs es) where
  -- whether a state to start in has a path tells whether there is one
  told : pathless t end n ≡ not path
  told = reached_is p end ∙ ap not (sym stage.reached)

  module _ (there : path ≡ true) where
    abbrev last-start : ℕ
    last-start = starts t.states end - 1

    last_is : last-start + 1 ≡ starts t.states end
    last_is = omega (arith, some-start t.states end (table_limits p).some_state)

    last : Last t end n last-start
    last = record { none_left = last_is; path = told ∙ ap not there }

    bests : Bests t v end n (last-start + 1) false gs es
    bests = rw last_is (stage.bests there)

-- the stage after the last start, where the states are counted by wings
staged :
    {t : Table} {n : ℕ} {v : Values} {half : ℕ} {signs : List ℤ} (w : Winged t n v half signs) (end : End) {path : Bool} {gs es : List ℤ}
    → Stage t v end n (starts (half + half) end) path gs es → Stage t v end n (starts t.states end) path gs es
staged w end stage = rw (sym w.halves) at stage

-- the values are within their limits, wherever they stand
values_small :
    {t : Table} {n : ℕ} {v : Values} → Pass t n v → ((i : ℕ) → Within 1023 (get_or v.channel i (pos 0))) × ((i : ℕ) → Within 8191 (get_or v.apriori i (pos 0)))
unfolding channel_at apriori_at
values_small {t} p = (
  λ i. let e : t.outputs * 0 + i ≡ i = omega arith in rw e at ((values_bounded p).channel 0 i),
  λ i. (values_bounded p).apriori i,
)

-- a check that refuses
refused : {b : Bool} {e : Refusal} → ◌≡◌ {A = Reply} (Err e) (check b NoPath) → (b ≡ false) × (e ≡ NoPath)
unfolding check
refused {b = true} h = absurd (refused_is_not_done h)
refused {b = false} {e} h = let q : ◌≡◌ {A = Reply} (Err e) (Err NoPath) = h in (refl, cc)

-- ---- the function

pub gather_all-path-requires-clause-flight : goal.gather_all-path-requires-clause-flight
gather_all-path-requires-clause-flight c =
    let b = rw (← c.pass.view_is) at c.requires.butterfly in
    let checked = rw (← c.pass.view_is) at c.requires.checked in
    record {
      known = c.kind.ensures.0;
      table = pass_table c.pass.inside.format c.pass.inside.next.now c.pass.inside.words.now;
      winged = flies b checked c.signs-all.ensures c.kind.ensures.1;
    }

pub returns-in_err-check : goal.returns-in_err-check
returns-in_err-check c =
    let b = rw (← c.pass.view_is) at c.requires.butterfly in
    let checked = rw (← c.pass.view_is) at c.requires.checked in
    let w = flies b checked c.signs-all.ensures c.kind.ensures.1 in
    let stage = staged w c.pass.inside.format.end (c.gather_all-path.ensures.stage _ w) in
    let (none-there, is) = refused c.in_err-check.ensures in
    let (margins-same, extrinsics-same) = c.gather_all-path.ensures.margins_unchanged none-there in
    let reply : ◌≡◌ {A = Reply} c.from_residual.result (Err NoPath) = handed_on c.from_residual.ensures.1 ∙ ap Err is in
    rw (reply, ← c.pass.view_is)
    (settled_none _ _ (told checked c.pass.inside.format.end stage ∙ ap not none-there) refl margins-same extrinsics-same
    (c.clear.ensures ∙ ap (λ n. replicate n (pos 0)) c.gather_all-path.auto.work))

pub tell-requires-clause-sections_bound : goal.tell-requires-clause-sections_bound
tell-requires-clause-sections_bound c = few_sections (rw (← c.pass.view_is) at c.requires.checked)

pub tell-requires-clause-by_index : goal.tell-requires-clause-by_index
tell-requires-clause-by_index c = let checked = rw (← c.pass.view_is) at c.requires.checked in (values_small checked).0

pub tell-requires-clause-by_index_2 : goal.tell-requires-clause-by_index_2
tell-requires-clause-by_index_2 c = let checked = rw (← c.pass.view_is) at c.requires.checked in (values_small checked).1

pub tell-requires-clause-by_index_3 : goal.tell-requires-clause-by_index_3
tell-requires-clause-by_index_3 c =
    let b = rw (← c.pass.view_is) at c.requires.butterfly in
    let checked = rw (← c.pass.view_is) at c.requires.checked in
    let w = flies b checked c.signs-all.ensures c.kind.ensures.1 in
    let end = c.pass.inside.format.end in
    let stage = staged w end (c.gather_all-path.ensures.stage _ w) in
    let there = check_shows NoPath c.in_ok-check.ensures in
    all_tellable checked end (last checked end stage there) (bests checked end stage there)

pub returns : goal.returns
returns c =
    let b = rw (← c.pass.view_is) at c.requires.butterfly in
    let checked = rw (← c.pass.view_is) at c.requires.checked in
    let w = flies b checked c.signs-all.ensures c.kind.ensures.1 in
    let end = c.pass.inside.format.end in
    let stage = staged w end (c.gather_all-path.ensures.stage _ w) in
    let there = check_shows NoPath c.in_ok-check.ensures in
    let marks_long = rw (← c.pass.view_is) at c.requires.marks_len in
    let margins_long = rw (← c.pass.view_is) at c.requires.margins_len in
    let extrinsics_long = rw (← c.pass.view_is) at c.requires.extrinsics_len in
    let lists =
    all_told checked end (last checked end stage there) (bests checked end stage there) b.two_outputs b.is_systematic
    (c.tell.auto.marks ∙ marks_long)
    (c.tell.auto.margins ∙ c.gather_all-path.auto.margins ∙ margins_long)
    (c.tell.auto.extrinsics ∙ c.gather_all-path.auto.extrinsics ∙ extrinsics_long)
    c.tell.ensures in
    rw (← c.pass.view_is)
    (settled_done _ _ (told checked end stage ∙ ap not there) lists.marks_are lists.margins_are lists.extrinsics_are
    (c.clear.ensures ∙ ap (λ n. replicate n (pos 0)) c.gather_all-path.auto.work))
