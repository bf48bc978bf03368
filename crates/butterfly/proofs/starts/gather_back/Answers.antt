use mathlib.Core.Path.{refl, sym, ◌∙◌}
use mathlib.Core.Bool.{Bool, false≢true}
use mathlib.Core.List.{List}
use Prim.Native.Nat.{ℕ, ◌-◌, ◌≤◌}
use native.Mathlib.Omega.{arith}
use lib.IntN.{ℤ}
use lib.ListN.{replicate, length-replicate}
use Rattle.trellis.specs.laws.Sweeps.{ending, backward, boundary}
use Rattle.siso.specs.Lent.{values_of}
use Rattle.metrics.specs.Words.{row}
use Rattle.siso.specs.laws.Steps.{Agree}
use Rattle.siso.proofs.Gathering.{left_none, all_gathered}
use Rattle.butterfly.specs.declared.step.Kind.{Kind}
use Rattle.butterfly.specs.laws.Flights.{states_of, Returning, Behind}
use Rattle.butterfly.proofs.Full.{reached_same, reached_forward}
use Rattle.butterfly.proofs.Sections.{rows_fewer, row_of, row_ended}
use Rattle.butterfly.proofs.starts.gather_back.Goals as goal
use Rattle.butterfly.proofs.starts.gather_back.Goals.{then-full, else-full}

-- what a sweep from `from` to `to` asks for, where it goes on from a row of the table's own
behind :
    {kind : Kind} {signs channel apriori last work : List ℤ} {sections early : ℕ} {full : Bool}
    (given : Returning kind signs channel apriori sections early full last work) (from to : ℕ) (after : List ℤ) → from ≤ to → to ≤ sections
    → Agree (states_of kind) (row after) (backward given.flight.table (values_of channel apriori) (ending given.end given.start) to (sections - to))
    → Behind kind signs channel apriori from to after work
behind {sections = sections} given from to after ordered within same = record {
  known = given.flight.known;
  table = given.flight.table;
  sections = sections;
  end = given.end;
  start = given.start;
  winged = given.flight.winged;
  ordered = ordered;
  within = within;
  rows = rows_fewer within given.rows;
  row_is = same;
}

-- the last sections
pub gather-z-requires-clause-behind : goal.gather-z-requires-clause-behind
gather-z-requires-clause-behind c =
    let given = c.requires.returning in
    behind given c.late-to.result c.args.course.sections c.args.last c.late-to.ensures.1 (omega arith)
    (row_ended given.flight.table (values_of c.args.course.channel.now c.args.course.apriori.now) c.args.course.sections (ending given.end given.start) given.row_is)

-- those between
pub gather-a-requires-clause-behind : goal.gather-a-requires-clause-behind
gather-a-requires-clause-behind c =
    let given = c.requires.returning in
    let flight = given.flight in
    let n = c.args.course.sections in
    let (low, high) = c.late-to.ensures in
    let ended = row_ended flight.table (values_of c.args.course.channel.now c.args.course.apriori.now) n (ending given.end given.start) given.row_is in
    let late = c.gather-z.ensures flight.table n given.end given.start flight.winged (omega arith) given.rows ended in
    behind given c.args.early c.late-to.result c.gather-z.result low high late.0

pub gather-a-requires-clause-reached : goal.gather-a-requires-clause-reached
gather-a-requires-clause-reached c p = elim c.if-full.branch [
  | then-full w ↦
      let given = c.requires.returning in
      let winged = given.flight.winged in (
        w.all_reached-plain.ensures (sym w.plain-is ∙ p),
        λ k low high.
            reached_same (row_of winged given.rows k (omega (arith, high, c.late-to.ensures.1)))
            (reached_forward winged (boundary given.start) c.args.early k low (given.reached w.if-full.true)),
      )
  | else-full w ↦ absurd (false≢true (sym w.if-full.false ∙ sym w.plain-is ∙ p))
]

-- the first sections
pub gather-requires-clause-behind : goal.gather-requires-clause-behind
gather-requires-clause-behind c =
    let given = c.requires.returning in
    let flight = given.flight in
    let n = c.args.course.sections in
    let (low, high) = c.late-to.ensures in
    let ended = row_ended flight.table (values_of c.args.course.channel.now c.args.course.apriori.now) n (ending given.end given.start) given.row_is in
    let late = c.gather-z.ensures flight.table n given.end given.start flight.winged (omega arith) given.rows ended in
    let between = c.gather-a.ensures flight.table n given.end given.start flight.winged high (rows_fewer high given.rows) late.0 in
    behind given 0 c.args.early c.gather-a.result (omega arith) c.requires.early_le_sections between.0

pub returns : goal.returns
returns c t end a w rows same known =
    let n = c.args.course.sections in
    let v = values_of c.args.course.channel.now c.args.course.apriori.now in
    let early = c.requires.early_le_sections in
    let high = c.late-to.ensures.1 in
    let ms : List ℕ = replicate n 0 in
    let (late_is, late-left) = c.gather-z.ensures t n end a w (omega arith) rows (row_ended t v n (ending end a) same) in
    let (early-is, early-left) = c.gather-a.ensures t n end a w high (rows_fewer high rows) late_is in
    let (first_is, first-left) = c.gather.ensures t n end a w early (rows_fewer early rows) early-is in
    all_gathered w.pass known {left = 0} (omega arith)
    (first-left ms _ _ (early-left ms _ _ (late-left ms _ _ (left_none t v _ _ _ _ n _ _ ms (length-replicate n 0) known.zeros_long known.ones_long))))
    refl
