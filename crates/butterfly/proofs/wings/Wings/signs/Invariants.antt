use Rattle.std.proofs.Common.{◌≡◌, length}
use Rattle.butterfly.specs.laws.Tables.{AreSigns}
use Rattle.butterfly.proofs.wings.Wings.signs.Given as goal

-- the signs of the wings passed are there
abbrev pub invariant-loop-i : goal.invariant-loop-i
invariant-loop-i l = record { long : length l.all ≡ 16; are : AreSigns l.next l.words l.i l.all }
