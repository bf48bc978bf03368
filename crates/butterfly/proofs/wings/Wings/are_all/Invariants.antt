use Rattle.std.proofs.Common.{ℕ, ◌<◌}
use Rattle.butterfly.specs.laws.Tables.{IsWing}
use Rattle.butterfly.proofs.wings.Wings.are_all.Given as goal

-- those passed are wings
abbrev pub invariant-loop-i : goal.invariant-loop-i
invariant-loop-i l = (j : ℕ) → j < l.i → IsWing l.self.next.now l.self.words.now l.self.half j
