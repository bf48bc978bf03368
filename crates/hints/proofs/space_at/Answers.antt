-- A turn tells whether a space and a line feed stand at i.
use Rattle.std.proofs.Common.{arith}
use Rattle.hints.specs.laws.Seeing.{space_end}
use Rattle.hints.proofs.Finding.{space_hit, no_space, no_feed, no_byte}
use Rattle.hints.proofs.space_at.Goals as goal
use Rattle.hints.proofs.space_at.Goals.{else-text-i-eq32-via-then-text-i-eq32+then-i-text+else-text-i-eq10, else-text-i-eq32-via-then-text-i-eq32+else-i-text, else-text-i-eq32-via-else-text-i-eq32}

pub returns-then-text-i-eq10 : goal.returns-then-text-i-eq10
returns-then-text-i-eq10 c = omega (arith, space_hit c.args.text.now c.loop-i.i c.loop-i-test.true c.if-text-i-eq32.true c.if-text-i-eq10.true)

pub loop-i-preserved : goal.loop-i-preserved
loop-i-preserved c = elim c.else-text-i-eq32.branch [
  | else-text-i-eq32-via-then-text-i-eq32+then-i-text+else-text-i-eq10 w ↦ omega (arith, no_feed c.args.text.now c.loop-i.i c.loop-i-test.true w.if-text-i-eq10.false)
  | else-text-i-eq32-via-then-text-i-eq32+else-i-text w ↦ omega (arith, no_byte c.args.text.now c.loop-i.i c.loop-i-test.true w.if-i-text.false)
  | else-text-i-eq32-via-else-text-i-eq32 w ↦ omega (arith, no_space c.args.text.now c.loop-i.i c.loop-i-test.true w.if-text-i-eq32.false)
]

pub returns : goal.returns
returns c = omega (arith, space_end c.args.text.now c.loop-i.i (omega arith))
