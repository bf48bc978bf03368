-- v is the number that the digits passed write.
use Rattle.std.proofs.Common.{◌≡◌, take}
use Rattle.text.specs.Decimal.{value_of}
use Rattle.text.proofs.read.value.Given as goal

abbrev pub invariant-loop-digit : goal.invariant-loop-digit
invariant-loop-digit l = l.v ≡ value_of (take l.digit-index l.field)
