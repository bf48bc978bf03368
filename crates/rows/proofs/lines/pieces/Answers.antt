use Rattle.std.proofs.Common.{arith}
use Rattle.rows.proofs.Cutting.{counting_hit, counting_past, counting_all}
use Rattle.rows.proofs.lines.pieces.Goals as goal
use Rattle.rows.proofs.lines.pieces.Goals.{then-b-byte, else-b-byte}

pub loop-i-preserved : goal.loop-i-preserved
loop-i-preserved c = elim c.if-b-byte.branch [
  | then-b-byte w ↦ rw (w.ended-is, w.last-is) (counting_hit c.loop-i.invariant (omega arith) w.if-b-byte.true)
  | else-b-byte w ↦ rw (w.ended-is, w.last-is) (counting_past c.loop-i.invariant (omega arith) w.if-b-byte.false)
]

pub returns : goal.returns
returns c = counting_all c.loop-i.invariant (omega arith)
