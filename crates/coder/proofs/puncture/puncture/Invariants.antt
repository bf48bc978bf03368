-- `at` of the places before i are sent, and the front of the list is their bits.
use Rattle.std.proofs.Common.{◌+◌}
use Rattle.frame.specs.laws.Turns.{Turn}
use Rattle.coder.specs.laws.Sending.{Put}
use Rattle.coder.proofs.puncture.puncture.Given as goal

abbrev pub invariant-loop-i : goal.invariant-loop-i
invariant-loop-i l = record {
  turn : Turn l.masks l.bits (l.tail1 + l.tail2) l.i l.at;
  put : Put l.masks l.bits l.tail1 l.tail2 l.first l.second l.sent l.i;
}
