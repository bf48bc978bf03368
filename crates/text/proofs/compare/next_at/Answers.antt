-- The byte stands as far behind `from` as the first piece of the rest is long.
use Rattle.std.proofs.Common.{◌≡◌, ◌≤◌, ◌+◌, ◌∙◌, sym, ap, take_all, length-drop, drop, length, eqb, arith, rules, tests}
use Rattle.std.specs.Option.{unwrap_or}
use Rattle.std.proofs.lemmas.Iterator.{YieldsList-from_slice}
use Rattle.std.proofs.lemmas.Iterator.Search.{position_from_yields_List}
use Rattle.text.specs.laws.Cutting.{first, far_end, first_length_lem}
use Rattle.text.proofs.Chains.{first_position, found_or_end}
use Rattle.text.proofs.compare.next_at.Goals as goal

pub returns-in_default : goal.returns-in_default
returns-in_default c =
    let past : length c.args.text.now ≤ c.args.from = omega (arith, c.in_default.ensures.lookup) in
    omega (arith, far_end c.args.byte c.args.text.now c.args.from past)

pub returns : goal.returns
returns c =
    let rest = c.in-Some.rest.now in
    let is : rest ≡ drop c.args.from c.args.text.now =
    c.in-Some.ensures.lookup.0.2 ∙ take_all _ _ (omega (arith, length-drop c.args.from c.args.text.now)) in
    let at = position_from_yields_List (λ x. eqb x c.args.byte) _ _ c.position.result c.position.ensures.ran (YieldsList-from_slice rest cc) (λ x b q k. search (rules, tests)) in
    ap (λ n. c.args.from + n) (
    c.unwrap_or.ensures ∙ ap (λ o. unwrap_or o (length rest)) at
    ∙ found_or_end _ (length rest) (omega (arith, first_length_lem c.args.byte rest, first_position c.args.byte rest))
    ∙ sym (first_position c.args.byte rest) ∙ ap (λ l. length (first c.args.byte l)) is
    )
