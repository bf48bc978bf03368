use Rattle.std.proofs.Common.{sym, ◌∙◌}
use Rattle.metrics.proofs.Ends.{zeros-row, no_start, ending_open}
use Rattle.metrics.proofs.rows.ending.Goals as goal

pub returns-then-starts-start : goal.returns-then-starts-start
returns-then-starts-start c s l = sym (no_start c.args.end c.args.start s (rw c.starts.ensures at c.if-starts-start.true) l)

pub returns-in-Open : goal.returns-in-Open
returns-in-Open c s l = zeros-row 16 s l ∙ sym (ending_open _ _ s c.in-Open.is (rw c.starts.ensures at c.if-starts-start.false))
