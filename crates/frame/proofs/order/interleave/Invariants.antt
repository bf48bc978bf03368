use Rattle.std.proofs.Common.{ℕ, ◌<◌, ◌≡◌, get_or, length}
use Rattle.frame.proofs.order.interleave.Given as goal

abbrev pub invariant-loop-i : goal.invariant-loop-i
invariant-loop-i g l =
    (a : _) (b : _) (j : ℕ) → j < l.i → j < length l.out → get_or l.pattern j 0 < length l.xs → get_or l.out j b ≡ g.H.Hand.handed (get_or l.xs (get_or l.pattern j 0) a)
