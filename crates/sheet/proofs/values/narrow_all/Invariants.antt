use Rattle.std.proofs.Common.{◌≡◌, ◌<◌, length, get_or, ℕ, pos, true}
use Rattle.integers.specs.Integers.{inside}
use Rattle.sheet.proofs.values.narrow_all.Given as goal

-- the values before i are within the limit, and stored
abbrev pub invariant-loop-i : goal.invariant-loop-i
invariant-loop-i l =
    (length l.out ≡ length l.values)
    × ((j : ℕ) → j < l.i → inside 1023 (get_or l.values j (pos 0)) ≡ true)
    × ((j : ℕ) → j < l.i → get_or l.out j (pos 0) ≡ get_or l.values j (pos 0))
