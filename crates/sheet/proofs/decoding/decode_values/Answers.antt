use Rattle.std.proofs.Common.{◌≡◌, Err, ℕ, true, false, sym, ap, ◌∙◌, ◌≤◌, length, arith, rules}
use Rattle.lists.specs.laws.Lending.{front_back}
use Rattle.refusal.specs.declared.Refusal.TheVariants.{ValueInLine}
use Rattle.refusal.specs.Refusals.{told}
use Rattle.refusal.specs.laws.Checks.{refused_then}
use Rattle.trellis.specs.Limits.{channel_fits}
use Rattle.sheet.specs.laws.Decoding.{printed_refused, printed_alone}
use Rattle.sheet.specs.laws.Range.{values_refused, values_done}
use Rattle.sheet.proofs.decoding.decode_values.Goals as goal

pub put_refusal-requires : goal.put_refusal-requires
unfolding told
put_refusal-requires c = omega (arith, c.value_line-line.ensures.upper_bound)

pub returns-then-not-narrow_all : goal.returns-then-not-narrow_all
returns-then-not-narrow_all c =
    let outside : channel_fits c.args.values.now ≡ false = cc in
    let told = ap (λ (n : ℕ). Err (ValueInLine n)) c.value_line-line.ensures.value ∙ values_refused _ _ outside in
    record { few = c.put_refusal.ensures.few; is = c.put_refusal.ensures.is ∙ printed_refused _ _ (refused_then _ (sym told)) }

pub returns : goal.returns
returns c =
    let values = c.args.values.now in
    let room : length values ≤ length c.blank-received.result = search rules in
    let back = front_back _ _ room c.narrow_all.auto.out in
    let out = c.narrow_all.ensures.out_after c.if-not-narrow_all.false in
    let passed : channel_fits values ≡ true = cc in
    let w = rw (back.is, out) at c.decode_frame.ensures in
    record { few = w.few; is = w.is ∙ printed_alone _ (values_done _ _ passed) }
