use mathlib.Core.Path.{sym}
use native.Mathlib.Omega.{arith}
use Rattle.siso.specs.Lent.{values_of}
use Rattle.siso.proofs.ForwardRows.{rows_none}
use Rattle.butterfly.specs.laws.Flights.{states_of}
use Rattle.butterfly.proofs.Full.{reached_same}
use Rattle.butterfly.proofs.Sections.{row_begun}
use Rattle.butterfly.proofs.starts.forward_all.Goals as goal

-- the first sections
pub forward-a-requires-clause-ahead : goal.forward-a-requires-clause-ahead
forward-a-requires-clause-ahead c =
    let flight = c.requires.flight in
    record {
      known = flight.known;
      table = flight.table;
      sections = c.args.course.sections;
      start = c.args.start;
      winged = flight.winged;
      ordered = omega arith;
      within = c.requires.early_le_sections;
      row_is =
          row_begun flight.table (values_of c.args.course.channel.now c.args.course.apriori.now) c.beginning-first.result c.args.start
          (omega (arith, flight.known.few)) c.beginning-first.ensures;
    }

-- the others
pub forward-z-requires-clause-ahead : goal.forward-z-requires-clause-ahead
forward-z-requires-clause-ahead c =
    let flight = c.requires.flight in
    let first =
    row_begun flight.table (values_of c.args.course.channel.now c.args.course.apriori.now) c.beginning-first.result c.args.start {S = states_of c.args.course.kind}
    (omega (arith, flight.known.few)) c.beginning-first.ensures in
    record {
      known = flight.known;
      table = flight.table;
      sections = c.args.course.sections;
      start = c.args.start;
      winged = flight.winged;
      ordered = c.requires.early_le_sections;
      within = omega arith;
      row_is = (c.forward-a.ensures flight.table c.args.course.sections c.args.start flight.winged first).0;
    }

pub returns : goal.returns
returns c t w =
    let first =
    row_begun t (values_of c.args.course.channel.now c.args.course.apriori.now) c.beginning-first.result c.args.start {S = states_of c.args.course.kind}
    (omega (arith, c.requires.flight.known.few)) c.beginning-first.ensures in
    let (row-there, rows) = c.forward-a.ensures t c.args.course.sections c.args.start w first in
    let (row_moved, rows_more) = c.forward-z.ensures t c.args.course.sections c.args.start w row-there in
    record {
      row_is = row_moved;
      rows = rows_more (rows rows_none);
      reached = λ p. reached_same (λ s l. sym (row-there s l)) (c.all_reached-full.ensures p);
    }
