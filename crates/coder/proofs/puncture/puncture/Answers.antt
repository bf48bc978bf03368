use Rattle.std.proofs.Common.{◌≡◌, ◌∙◌, ◌+◌, ◌*◌, refl, arith}
use Rattle.frame.specs.laws.Turns.{turn_first, turn_next, turn_below}
use Rattle.coder.specs.laws.Sending.{put_none, put_next, put_all}
use Rattle.coder.proofs.puncture.puncture.Goals as goal
use Rattle.coder.proofs.puncture.puncture.Goals.{then-is_sent, else-is_sent}

pub loop-i-init : goal.loop-i-init
loop-i-init c = record { turn = turn_first _ _ _; put = put_none _ _ _ _ _ _ _ }

pub loop-i-preserved : goal.loop-i-preserved
loop-i-preserved c =
    let here = c.loop-i-test.true in
    let says = c.is_sent.ensures in
    let inv = c.loop-i.invariant in
    elim c.if-is_sent.branch [
      | then-is_sent w ↦
          let room = turn_below _ _ _ here says inv.turn c.requires.masks_nonzero c.requires.by_index w.if-is_sent.true in
          record {
            turn = turn_next _ _ _ here says inv.turn (rw w.if-is_sent.true w.at-is);
            put = put_next _ _ _ _ _ _ here says inv.turn w.place_bit.ensures (λ e. omega (arith, room)) (rw w.if-is_sent.true w.sent-is) inv.put;
          }
      | else-is_sent w ↦ record {
        turn = turn_next _ _ _ here says inv.turn (rw w.if-is_sent.false w.at-is);
        put = put_next _ _ _ _ _ _ here says inv.turn refl (λ e. absurd (cc)) (rw w.if-is_sent.false w.sent-is) inv.put;
      }
    ]

pub returns : goal.returns
returns c =
    let a = c.args in
    let e : c.loop-i.i ≡ 3 * a.bits + 2 * (a.tail1 + a.tail2) = omega arith in
    put_all _ _ _ _ _ _ c.requires.masks_nonzero c.requires.by_index (c.loop-i.auto.sent ∙ c.requires.sent_len) (rw e at c.loop-i.invariant.put)
