use Rattle.std.proofs.Common.{◌∙◌, sym, ap, arith, ℕ, pos, replicate, length-take-le}
use Rattle.decoder.proofs.Read.{fitting, decoded_by}
use Rattle.decoder.proofs.run.run.Goals as goal

pub invariant_of-layout : goal.invariant_of-layout
invariant_of-layout c =
    let ready = rw (← c.frame.view_is) at c.requires.ready in
    record { permutes = ready.permutes; few_bits = ready.few_bits; few_tails = rw (c.tail_of-tail1.ensures, c.tail_of-tail2.ensures) ready.few_tails }

pub gather_both-requires-clause-channel1_len : goal.gather_both-requires-clause-channel1_len
gather_both-requires-clause-channel1_len c =
    let few1 = rw (← c.frame.view_is) at c.requires.ready.few1 in
    length-take-le _ _ (omega (arith, few1))

pub gather_both-requires-clause-channel2_len : goal.gather_both-requires-clause-channel2_len
gather_both-requires-clause-channel2_len c =
    let few2 = rw (← c.frame.view_is) at c.requires.ready.few2 in
    length-take-le _ _ (omega (arith, few2))

pub gather_both-requires-clause-by_index : goal.gather_both-requires-clause-by_index
gather_both-requires-clause-by_index c = rw (← c.frame.view_is) at c.requires.ready.small_masks

pub passes-requires-clause-fitting : goal.passes-requires-clause-fitting
passes-requires-clause-fitting c =
    let few1 = rw (← c.frame.view_is) at c.requires.ready.few1 in
    let few2 = rw (← c.frame.view_is) at c.requires.ready.few2 in
    rw (← c.frame.view_is)
    (fitting _ _ _ _ (rw (← c.frame.view_is) at c.requires.decodable) c.tail_of-tail1.ensures c.tail_of-tail2.ensures c.gather_both.ensures
    (c.gather_both.auto.channel1 ∙ length-take-le _ _ (omega (arith, few1))) (c.gather_both.auto.channel2 ∙ length-take-le _ _ (omega (arith, few2)))
    c.clear.auto.work (c.clear.ensures ∙ ap (λ (n : ℕ). replicate n (pos 0)) (sym c.clear.auto.work)))

pub returns : goal.returns
returns c =
    rw (← c.frame.view_is)
    (decoded_by _ _ _ _ (rw (← c.frame.view_is) at c.requires.decodable) c.tail_of-tail1.ensures c.tail_of-tail2.ensures c.gather_both.ensures
    (c.passes.auto.work ∙ c.clear.auto.work) (rw (← c.frame.view_is) at c.passes.ensures))
