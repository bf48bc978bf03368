use Rattle.std.proofs.Common.{[], ◌≡◌, get_or, false, arith}
use Rattle.lists.specs.laws.First.{first_is, first_none}
use Rattle.trellis.specs.Limits.{channel_fits}
use Rattle.sheet.specs.laws.Range.{rows_in, rows_long}
use Rattle.sheet.proofs.range.value_line.Goals as goal

pub returns-then-not-row_fits-clause-value : goal.returns-then-not-row_fits-clause-value
returns-then-not-row_fits-clause-value c =
    let rows = rows_in c.args.k c.args.values.now in
    let outside : channel_fits (get_or rows c.loop-i.i []) ≡ false = cc in
    omega (
      arith,
      first_is channel_fits [] rows c.loop-i.i (record {
        in_list = omega (arith, rows_long c.args.k c.args.values.now);
        fails = outside;
        passed = c.loop-i.invariant;
      }),
    )

pub returns-clause-value : goal.returns-clause-value
returns-clause-value c =
    let rows = rows_in c.args.k c.args.values.now in
    let long = rows_long c.args.k c.args.values.now in
    omega (arith, long, first_none channel_fits [] rows (λ j h. c.loop-i.invariant j (omega (arith, long))))
