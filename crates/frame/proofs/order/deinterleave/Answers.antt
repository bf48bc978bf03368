use Rattle.std.proofs.Common.{◌<◌, sym, ◌∙◌, arith, length, get_or}
use Rattle.std.proofs.lemmas.List.{get_or-map}
use Rattle.frame.proofs.laws.Interleaving.{placed_all}
use Rattle.frame.proofs.order.deinterleave.Goals as goal

pub returns : goal.returns
returns g c a b w xs out =
    placed_all w (omega arith)
    (record {
      entry = λ j l.
          let to = w.below j (omega arith) in
          c.loop-i.invariant w a b j (omega arith) (omega arith) (omega (arith, to)) ∙ sym (get_or-map g.H.Hand.handed c.args.xs.now j a b (omega arith));
    })
