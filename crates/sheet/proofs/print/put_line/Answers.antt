use Rattle.std.proofs.Common.{arith, rules, FitsSigned}
use Rattle.std.specs.Int.{w32}
use Rattle.std.proofs.Math.Facts.{to_z_pos}
use Rattle.integers.specs.laws.Linear.{plain}
use Rattle.sheet.specs.laws.Printing.{wrote_then, line_text}
use Rattle.sheet.proofs.print.put_line.Goals as goal

pub returns : goal.returns
unfolding line_text
returns c =
    let margin_fits : FitsSigned w32 c.args.margin = search rules in
    let extrinsic_fits : FitsSigned w32 c.args.extrinsic = search rules in
    let line =
    rw (to_z_pos w32 {n = c.args.k} (omega arith), to_z_pos w32 {n = c.args.bit} (omega arith))
    at (wrote_then (wrote_then (wrote_then c.put_number-one.ensures c.put_number-two.ensures) c.put_number-three.ensures) c.put_number.ensures) in
    simp plain at line
