use Rattle.std.proofs.Common.{[], ◌≡◌, Ok, refl, ℕ, ◌+◌, ◌*◌, ◌≤◌, pos, sym, ap, ◌∙◌, length, take, replicate, arith, rules}
use Rattle.lists.specs.laws.Lending.{front_back, front_replicate}
use Rattle.refusal.specs.Refusals.{◌then◌}
use Rattle.decoder.specs.Decoder.{DecodeResult, decode}
use Rattle.decoder.specs.Lent.{decode_lent_of}
use Rattle.sheet.specs.laws.Printing.{work_unseen}
use Rattle.sheet.specs.laws.Decoding.{house_call, blank_for, printed_refused, printed_done, refused_place}
use Rattle.sheet.proofs.decoding.decode_frame.Goals as goal

-- the lists are lent as zeros
blanks : (k : ℕ) → k ≤ 512 →
    decode_lent_of (take k (replicate 512 0)) (take k (replicate 512 (pos 0))) (take k (replicate 512 (pos 0))) (take ((k + 3) * 4) (replicate 2060 (pos 0)))
    ≡ blank_for k
blanks k h =
    rw (front_replicate {A = ℕ} k 512 0 h, front_replicate k 512 (pos 0) h, front_replicate ((k + 3) * 4) 2060 (pos 0) (omega arith)) refl

pub put_refusal-requires : goal.put_refusal-requires
put_refusal-requires c =
    let d =
    rw (c.blank-bits.ensures, c.blank-margins.ensures, c.blank-extrinsics.ensures, c.blank-work.ensures, blanks (length c.args.pattern.now) c.requires.pattern_len_bound)
    at c.decode_house-reply.ensures in
    refused_place _ _ c.requires.received_value (sym c.in-Err.is ∙ ap (λ (x : DecodeResult). x.reply) d)

pub returns-in-Err : goal.returns-in-Err
unfolding ◌then◌
returns-in-Err c =
    let d =
    rw (c.blank-bits.ensures, c.blank-margins.ensures, c.blank-extrinsics.ensures, c.blank-work.ensures, blanks (length c.args.pattern.now) c.requires.pattern_len_bound)
    at c.decode_house-reply.ensures in
    let result = decode (house_call c.args.pattern.now c.args.received.now) (blank_for (length c.args.pattern.now)) in
    let w = c.put_refusal.ensures in
    record { few = w.few; is = w.is ∙ printed_refused (Ok tt) result (sym (ap (λ (x : DecodeResult). x.reply) d) ∙ c.in-Err.is) }

pub returns-in-Ok : goal.returns-in-Ok
unfolding ◌then◌
returns-in-Ok c =
    let k = length c.args.pattern.now in
    let d =
    rw (c.blank-bits.ensures, c.blank-margins.ensures, c.blank-extrinsics.ensures, c.blank-work.ensures, blanks (length c.args.pattern.now) c.requires.pattern_len_bound)
    at c.decode_house-reply.ensures in
    let result = decode (house_call c.args.pattern.now c.args.received.now) (blank_for (length c.args.pattern.now)) in
    let new = c.decode_house-reply.new in
    let room_bits : k ≤ length c.blank-bits.result = search rules in
    let room_margins : k ≤ length c.blank-margins.result = search rules in
    let room_extrinsics : k ≤ length c.blank-extrinsics.result = search rules in
    let bits = front_back _ _ room_bits c.decode_house-reply.auto.bits in
    let margins = front_back _ _ room_margins c.decode_house-reply.auto.margins in
    let extrinsics = front_back _ _ room_extrinsics c.decode_house-reply.auto.extrinsics in
    let w = rw (bits.is, margins.is, extrinsics.is) at c.put_result.ensures in
    let same = work_unseen (decode_lent_of new.bits new.margins new.extrinsics []) result.lists
    (ap (λ (x : DecodeResult). x.lists.bits) d) (ap (λ (x : DecodeResult). x.lists.margins) d) (ap (λ (x : DecodeResult). x.lists.extrinsics) d) in
    record { few = w.few; is = w.is ∙ same ∙ printed_done (Ok tt) result (sym (ap (λ (x : DecodeResult). x.reply) d) ∙ c.in-Ok.is) }
