-- What a turn reads stands behind what stood there, and was taken behind it.
-- Assumes nothing.
use Rattle.std.proofs.Common.{rules}
use Rattle.receiver.proofs.Reading.{read_more}
use Rattle.receiver.proofs.input.read_sheet.Goals as goal

pub loop-done-preserved : goal.loop-done-preserved
loop-done-preserved g c =
    (search rules, search rules, read_more _ _ _ c.loop-done.done _ c.loop-done.buf _ c.in_ok-count.ensures.counted.0 c.read_on.ensures.before c.loop-done.invariant.2 c.in_ok-count.ensures.bytes.0)
