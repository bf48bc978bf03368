-- The entries below i of both lists are the table's.
-- Assumes nothing.
use Rattle.lists.specs.laws.Stores.{Filled}
use Rattle.taps.specs.Taps.{next_entry, word_entry}
use Rattle.taps.proofs.branch.Register.fill.Given as goal

abbrev pub invariant-loop-i : goal.invariant-loop-i
invariant-loop-i l =
    Filled 0 (next_entry l.self.states l.self.feedback) l.next l.i × Filled 0 (word_entry l.self.feedback l.self.parity) l.words l.i
