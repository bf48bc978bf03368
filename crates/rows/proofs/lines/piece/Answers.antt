-- The pieces are those that the text is split into.
use Rattle.std.proofs.Common.{◌∙◌, refl, ap, eqb, get_or, [], rules, tests}
use Rattle.std.specs.List.{slice_split}
use Rattle.std.proofs.lemmas.Iterator.Splits.{YieldsList-from_slice_split}
use Rattle.std.proofs.lemmas.Iterator.Consumers.{nth_from_yields_List}
use Rattle.rows.proofs.Cutting.{split_cut, nth_or}
use Rattle.rows.proofs.lines.piece.Goals as goal

pub returns : goal.returns
returns c =
    let xs = c.args.bytes.now in
    let at =
    nth_from_yields_List _ _ _ c.nth.ensures.ran
    (YieldsList-from_slice_split _ (λ b. eqb b c.args.byte) xs c.split.ensures.rest c.split.ensures.done c.split.ensures.closure (λ x b q k. search (rules, tests))) in
    ap (λ l. l.now) c.unwrap_or.ensures ∙ nth_or _ _ (slice_split (λ b. eqb b c.args.byte) xs) c.args.i at refl ∙ ap (λ ps. get_or ps c.args.i []) (split_cut c.args.byte xs)
