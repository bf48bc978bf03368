-- The values before i are those of their places.
use Rattle.std.proofs.Common.{pos, get_or}
use Rattle.lists.specs.laws.Stores.{Filled}
use Rattle.decoder.specs.laws.Gathering.{place_of}
use Rattle.decoder.proofs.channel.Layout.gather.Given as goal

abbrev pub invariant-loop-i : goal.invariant-loop-i
invariant-loop-i l = Filled (pos 0) (λ j. get_or l.places (place_of l.second l.self.pattern.now l.self.tail1 j) (pos 0)) l.out l.i
