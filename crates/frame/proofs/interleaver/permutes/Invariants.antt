-- The entries so far are below the length and distinct, and exactly they are marked.
-- Assumes nothing.
use Rattle.frame.proofs.laws.Seen.{Seen}
use Rattle.frame.proofs.interleaver.permutes.Given as goal

abbrev pub invariant-loop-entry : goal.invariant-loop-entry
invariant-loop-entry l = Seen l.pattern l.entry-index l.seen
