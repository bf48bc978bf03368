use Rattle.metrics.proofs.Ends.{boundary-row, past-row}
use Rattle.metrics.proofs.rows.boundary.Goals as goal

pub returns-then-start-lt16 : goal.returns-then-start-lt16
returns-then-start-lt16 c s l = boundary-row 16 _ s c.if-start-lt16.true l

pub returns-else-start-lt16 : goal.returns-else-start-lt16
returns-else-start-lt16 c s l = past-row 16 _ s c.if-start-lt16.false l
