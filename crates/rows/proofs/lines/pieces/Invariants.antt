use Rattle.rows.proofs.Cutting.{Counting}
use Rattle.rows.proofs.lines.pieces.Given as goal

abbrev pub invariant-loop-i : goal.invariant-loop-i
invariant-loop-i l = Counting l.byte l.bytes l.ended l.last l.i
