-- The lines before this one keep the rules.
use Rattle.std.proofs.Common.{◌≡◌, length, drop}
use Rattle.rows.specs.Lines.{lines_of, fault_from}
use Rattle.rows.proofs.faults.first_fault.Given as goal

abbrev pub invariant-loop-i : goal.invariant-loop-i
invariant-loop-i l = fault_from l.k 0 (lines_of l.sheet) ≡ fault_from l.k (length l.yielded) (drop (length l.yielded) (lines_of l.sheet))
