use Rattle.std.proofs.Common.{arith}
use Rattle.frame.specs.Frame.{tail_of}
use Rattle.coder.proofs.laws.Coding.{coded_open}
use Rattle.coder.proofs.sections.Branches.code.Goals as goal

pub returns-in-Open : goal.returns-in-Open
unfolding tail_of
returns-in-Open c = rw c.in-Open.is (coded_open _ c.walk.ensures (omega (arith, rw c.in-Open.is at c.requires.out_len)))
