use Rattle.std.proofs.Common.{arith, length, length-drop}
use Rattle.coder.proofs.Tailed.{inputs_bits, coded_tailed}
use Rattle.coder.proofs.laws.Coding.{coded_none}
use Rattle.coder.proofs.sections.Branches.code_tailed.Goals as goal

pub returns-in_default : goal.returns-in_default
returns-in_default c = coded_none c.walk-s.ensures c.in_default.ensures

pub invariant_of-tail : goal.invariant_of-tail
invariant_of-tail c = record { are_bits = inputs_bits _ _ c.inputs_of-last.ensures (omega arith) }

pub returns : goal.returns
returns c =
    coded_tailed c.walk-s.ensures c.in-Some.ensures c.inputs_of-last.ensures (omega arith) c.walk.ensures (omega arith)
    (omega (arith, length-drop (length c.args.inputs.now.bits.now) c.walk-s.new.out))
