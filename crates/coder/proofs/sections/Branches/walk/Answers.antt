use Rattle.std.proofs.Common.{◌≡◌, ◌∷◌, ◌+◌, refl, arith, add-one, length, get_or, drop, drop-cons}
use Rattle.std.proofs.Math.Seq.{drop-length}
use Rattle.coder.specs.laws.Walking.{walking_next, walking_wrote, walking_ended}
use Rattle.coder.proofs.sections.Branches.walk.Goals as goal

pub loop-k-preserved : goal.loop-k-preserved
loop-k-preserved c =
    let inputs = c.args.inputs.now.bits.now in
    let k = c.loop-k.k in
    let ahead : drop k inputs ≡ get_or inputs k 0 ∷ drop (k + 1) inputs = rw add-one (drop-cons inputs k 0 c.loop-k-test.true) in
    rw c.from-x.ensures (walking_next (omega arith) (c.args.inputs.now.are_bits.bit k) refl (rw c.from-x.ensures at c.target-s.ensures) (rw ahead at c.loop-k.invariant))

pub returns : goal.returns
returns c =
    let e : c.loop-k.k ≡ length c.args.inputs.now.bits.now = omega arith in
    let done = rw (e, drop-length c.args.inputs.now.bits.now) at c.loop-k.invariant in
    record { leads = done.leads; ends = walking_ended done; front = walking_wrote done }
