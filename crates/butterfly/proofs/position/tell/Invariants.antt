use Rattle.std.proofs.Common.{◌*◌, pos, ◌+ℤ◌, get_or}
use Rattle.butterfly.proofs.Told.{ToldUpto}
use Rattle.butterfly.proofs.position.tell.Given as goal

-- the first k positions are told, and the words of the others are as they were
abbrev pub invariant-loop-k : goal.invariant-loop-k
invariant-loop-k l =
    ToldUpto (λ j. get_or l.apriori j (pos 0) +ℤ get_or l.channel (2 * j) (pos 0)) l.sections l.initial.margins l.initial.extrinsics
    l.k l.marks l.margins l.extrinsics
