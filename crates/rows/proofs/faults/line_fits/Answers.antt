use Rattle.std.proofs.Common.{◌∙◌}
use Rattle.text.specs.Text.{bytes}
use Rattle.rows.proofs.Rowing.{header_line}
use Rattle.rows.proofs.faults.line_fits.Goals as goal

pub returns-then-i-eq0 : goal.returns-then-i-eq0
unfolding bytes
returns-then-i-eq0 c = c.same.ensures ∙ header_line c.args.k c.args.i c.args.line.now c.if-i-eq0.true
