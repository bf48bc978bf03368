-- Every state is looked at by its own two branches.
use Rattle.std.specs.Prelude.{◌≡◌, ◌&&◌, ◌/◌, ◌*◌, ◌%◌, ◌+◌, refl, eqb, ltb, length, get_or}
use Rattle.std.proofs.Common.{◌∙◌, arith, rules, tests}
use Rattle.std.proofs.lemmas.Iterator.{YieldsList-from_range}
use Rattle.std.proofs.lemmas.Iterator.Search.{all_from_yields_List}
use Rattle.trellis.proofs.Systematic.{own, looked, all_states}
use Rattle.trellis.proofs.Table.is_systematic.Goals as goal

pub returns : goal.returns
returns c =
    let t = c.self.inside in
    rw (← c.self.view_is)
    (all_from_yields_List (own t.words.now) _ _ _ c.all.ensures.ran
    (YieldsList-from_range 0 _ t.states refl (omega arith))
    (λ x b q k.
    let e : b ≡ (ltb x (length t.words.now / 2) && (eqb (get_or t.words.now (2 * x) 0 % 2) 0 && eqb (get_or t.words.now (2 * x + 1) 0 % 2) 1)) = search (rules, tests) in
    (search rules, e ∙ looked t.words.now x))
    ∙ all_states t.states t.outputs t.next.now t.words.now)
