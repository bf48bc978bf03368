-- No number is marked before the first entry.
-- Assumes nothing.
use Rattle.frame.proofs.laws.Seen.{seen_none}
use Rattle.frame.proofs.interleaver.permutes.Goals as goal

pub loop-entry-init : goal.loop-entry-init
loop-entry-init c = seen_none _
