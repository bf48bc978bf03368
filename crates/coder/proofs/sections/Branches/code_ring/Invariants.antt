-- The inputs return none of the states passed to itself.
use Rattle.coder.proofs.Rings.{NoneBelow}
use Rattle.coder.proofs.sections.Branches.code_ring.Given as goal

abbrev pub invariant-loop-s : goal.invariant-loop-s
invariant-loop-s l = NoneBelow l.self.next.now l.self.words.now l.inputs.bits.now l.s
