-- What is limited is what is handed over.
-- Assumes nothing.
use Rattle.soft.proofs.Scaled.{handed_is}
use Rattle.soft.proofs.handed.Goals as goal

pub returns : goal.returns
returns c = handed_is c.ranges.e c.from.ensures c.clamp.ensures.value
