-- `at` of the places before i are sent, and each of these places holds what it takes.
use Rattle.std.proofs.Common.{pos}
use Rattle.lists.specs.laws.Stores.{Filled}
use Rattle.frame.specs.Frame.{flags_under}
use Rattle.frame.specs.laws.Turns.{Turn}
use Rattle.decoder.specs.laws.Spreading.{spread_at}
use Rattle.decoder.proofs.spread.spread.Given as goal

abbrev pub invariant-loop-i : goal.invariant-loop-i
invariant-loop-i l = record {
  turn : Turn l.masks l.bits l.tails l.i l.at;
  filled : Filled (pos 0) (spread_at (pos 0) (flags_under l.masks l.bits l.tails) l.received) l.places l.i;
}
