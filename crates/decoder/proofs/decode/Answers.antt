use Rattle.std.proofs.Common.{refl, sym, ◌∙◌}
use Rattle.refusal.specs.laws.Passing.{handed_on}
use Rattle.decoder.specs.Lent.{decode_lent_of}
use Rattle.decoder.specs.laws.Decodable.{decodable}
use Rattle.decoder.specs.laws.Ready.{ready}
use Rattle.decoder.specs.laws.Settled.{decode_refused, decode_walked}
use Rattle.decoder.proofs.decode.Goals as goal

pub returns-in_err-decode_reply : goal.returns-in_err-decode_reply
returns-in_err-decode_reply c =
    let lent = decode_lent_of c.args.bits.now c.args.margins.now c.args.extrinsics.now c.args.work.now in
    rw (handed_on c.from_residual.ensures.1)
    (decode_refused _ lent _ (sym (c.in_err-decode_reply.ensures lent (record { bits_sized = refl; margins_sized = refl; extrinsics_sized = refl; work_sized = refl }))))

pub run-requires-clause-decodable : goal.run-requires-clause-decodable
run-requires-clause-decodable c =
    let lent = decode_lent_of c.args.bits.now c.args.margins.now c.args.extrinsics.now c.args.work.now in
    decodable _ lent (sym (c.in_ok-decode_reply.ensures lent (record { bits_sized = refl; margins_sized = refl; extrinsics_sized = refl; work_sized = refl })))

pub run-requires-clause-ready : goal.run-requires-clause-ready
run-requires-clause-ready c =
    let lent = decode_lent_of c.args.bits.now c.args.margins.now c.args.extrinsics.now c.args.work.now in
    let w = decodable _ lent (sym (c.in_ok-decode_reply.ensures lent (record { bits_sized = refl; margins_sized = refl; extrinsics_sized = refl; work_sized = refl }))) in
    ready _ _ w.framed w.received_long

pub returns : goal.returns
returns c =
    let lent = decode_lent_of c.args.bits.now c.args.margins.now c.args.extrinsics.now c.args.work.now in
    c.run.ensures
    ∙ decode_walked _ lent (sym (c.in_ok-decode_reply.ensures lent (record { bits_sized = refl; margins_sized = refl; extrinsics_sized = refl; work_sized = refl })))
