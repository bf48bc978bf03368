use Rattle.std.proofs.Common.{◌∙◌, sym, pos, ext_get_or, arith}
use Rattle.decoder.specs.laws.Gathering.{gathered_at, gathered_length}
use Rattle.decoder.proofs.channel.Layout.gather.Goals as goal

pub returns : goal.returns
returns c =
    let a = c.args in
    let m = a.self.now in
    let long = gathered_length m.pattern.now m.tail1 m.tail2 m.permutes a.second a.places.now c.requires.places_len in
    ext_get_or (pos 0) _ _ (omega (arith, long))
    (λ i h. c.loop-i.invariant.entry i (omega arith)
    ∙ sym (gathered_at m.pattern.now m.tail1 m.tail2 m.permutes a.places.now i a.second (omega arith)))
