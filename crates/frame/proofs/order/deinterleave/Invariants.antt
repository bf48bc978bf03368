use Rattle.std.proofs.Common.{ℕ, ◌<◌, ◌≡◌, get_or, length}
use Rattle.frame.specs.laws.Interleaving.{Permutes}
use Rattle.frame.proofs.order.deinterleave.Given as goal

abbrev pub invariant-loop-i : goal.invariant-loop-i
invariant-loop-i g l =
    Permutes (length l.pattern) l.pattern → (a : _) (b : _) (j : ℕ) → j < l.i → j < length l.xs → get_or l.pattern j 0 < length l.out → get_or l.out (get_or l.pattern j 0) b ≡ g.H.Hand.handed (get_or l.xs j a)
