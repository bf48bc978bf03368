use Rattle.std.proofs.Common.{arith, ℕ, length}
use Rattle.std.proofs.lemmas.List.{map-id}
use Rattle.lists.specs.laws.Lending.{Back, front_back}
use Rattle.coder.specs.laws.Bits.{bits_interleaved}
use Rattle.coder.proofs.sections.Branches.code_interleaved.Goals as goal

pub invariant_of-inputs : goal.invariant_of-inputs
invariant_of-inputs c =
    let k = length c.args.message.now.bits.now in
    let back : Back k c.blank-interleaved.result c.interleave.new.out = front_back k c.blank-interleaved.result (omega arith) c.interleave.auto.out in
    let order = rw (map-id c.args.message.now.bits.now) at (c.interleave.ensures 0 0 (rw (← c.requires.permutes.size) at c.requires.permutes) (omega (arith, c.requires.permutes.size)) (omega (arith, c.requires.permutes.size))) in
    let bits = bits_interleaved c.requires.permutes c.args.message.now.are_bits in
    record { are_bits = rw (back.is, order, bits.size) bits }

pub returns : goal.returns
returns c =
    let k = length c.args.message.now.bits.now in
    let back : Back k c.blank-interleaved.result c.interleave.new.out = front_back k c.blank-interleaved.result (omega arith) c.interleave.auto.out in
    let order = rw (map-id c.args.message.now.bits.now) at (c.interleave.ensures 0 0 (rw (← c.requires.permutes.size) at c.requires.permutes) (omega (arith, c.requires.permutes.size)) (omega (arith, c.requires.permutes.size))) in
    rw (back.is, order) at c.code.ensures
