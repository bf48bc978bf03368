use Rattle.coder.proofs.tail.+tail_from.Given as goal

abbrev pub decreases-tail_from : goal.decreases-tail_from
decreases-tail_from l = l.left
