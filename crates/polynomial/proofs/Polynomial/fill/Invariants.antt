-- The entries below i are the polynomial's.
-- Assumes nothing.
use Rattle.lists.specs.laws.Stores.{Filled}
use Rattle.polynomial.specs.Call.{call_of}
use Rattle.polynomial.specs.Polynomial.{entry_at}
use Rattle.polynomial.proofs.Polynomial.fill.Given as goal

abbrev pub invariant-loop-i : goal.invariant-loop-i
invariant-loop-i l = Filled 0 (entry_at (call_of l.self)) l.pattern l.i
