-- So far the front of the list is the words of the inputs before k, which lead to s.
use Rattle.std.proofs.Common.{[], drop}
use Rattle.coder.specs.laws.Walking.{Walking}
use Rattle.coder.proofs.sections.Branches.walk.Given as goal

abbrev pub invariant-loop-k : goal.invariant-loop-k
invariant-loop-k l = Walking l.self.next.now l.self.words.now [] l.fn.start l.inputs.bits.now l.s (drop l.k l.inputs.bits.now) l.out l.k
