use Rattle.std.proofs.Common.{◌+◌, ◌*◌, ◌≤◌, sym, ap, ◌∙◌, length, rules}
use Rattle.lists.specs.Lists.{listed}
use Rattle.lists.specs.laws.Lending.{front_back, front_long}
use Rattle.rows.specs.laws.Fitting.{fitting}
use Rattle.sheet.specs.Sheet.{message_at}
use Rattle.sheet.specs.laws.Receiving.{values_to, values_all}
use Rattle.sheet.specs.laws.Decoding.{answer_by}
use Rattle.sheet.proofs.decoding.decode_sheet.Goals as goal

pub returns : goal.returns
returns c =
    let sheet = c.args.sheet.now in
    let k = c.args.k in
    let room_pattern : k ≤ length c.blank-pattern.result = search rules in
    let room_values : 3 * k + 8 ≤ length c.blank-values.result = search rules in
    let pattern = front_back _ _ room_pattern c.read_frame.auto.pattern in
    let values = front_back _ _ room_values c.read_frame.auto.values in
    let w = rw (pattern.is, values.is) at c.decode_values.ensures in
    let long = sym (front_long _ _ room_pattern) ∙ c.requires.k_value in
    let pattern_is = c.read_frame.ensures.pattern_after ∙ ap (listed (λ j. (message_at sheet j).to)) long in
    let values_are = c.read_frame.ensures.values_after ∙ ap (values_to sheet) long ∙ values_all sheet (fitting sheet c.requires.sheet_value).cut_long in
    record { few = w.few; is = w.is ∙ answer_by sheet _ _ c.requires.sheet_value pattern_is values_are }
