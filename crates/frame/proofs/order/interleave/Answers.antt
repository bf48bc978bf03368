use Rattle.std.proofs.Common.{◌<◌, sym, ◌∙◌, arith, length, get_or, map}
use Rattle.std.proofs.lemmas.List.{get_or-map}
use Rattle.frame.proofs.order.interleave.Goals as goal
use Rattle.frame.proofs.laws.Interleaving.{interleave_filled}

pub returns : goal.returns
returns g c a b w xs out =
    let becomes = g.H.Hand.handed in
    interleave_filled b c.args.pattern.now (map becomes c.args.xs.now) c.loop-i.out (omega arith)
    (record {
      entry = λ j l.
          let from = w.below j l in
          c.loop-i.invariant a b j (omega arith) (omega arith) (omega (arith, from))
          ∙ sym (get_or-map becomes c.args.xs.now (get_or c.args.pattern.now j 0) a b (omega (arith, from)));
    })
