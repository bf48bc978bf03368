use Rattle.trellis.specs.Table.{output}
use Rattle.butterfly.proofs.wings.has_zero_parity.Goals as goal
use Rattle.butterfly.proofs.wings.has_zero_parity.Goals.{then-straight, else-straight}

pub returns : goal.returns
unfolding output
returns c = elim c.if-straight.branch [
  | then-straight w ↦ rw (w.word-is, w.if-straight.true)
  | else-straight w ↦ rw (w.word-is, w.if-straight.false)
]
