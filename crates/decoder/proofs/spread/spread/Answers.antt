use Rattle.std.proofs.Common.{rules, ◌≡◌, ◌∙◌, sym, true, false, get_or, pos, length, arith}
use Rattle.lists.specs.laws.Stores.{filled_none, filled_more}
use Rattle.frame.specs.Frame.{flags_under}
use Rattle.frame.specs.laws.Flags.{flags_length}
use Rattle.frame.specs.laws.Turns.{turn_first, turn_next}
use Rattle.decoder.specs.laws.Spreading.{spread_filled}
use Rattle.decoder.proofs.spread.spread.Goals as goal
use Rattle.decoder.proofs.spread.spread.Goals.{then-is_sent, else-is_sent}

pub loop-i-init : goal.loop-i-init
loop-i-init c = record { turn = turn_first _ _ _; filled = filled_none _ }

pub loop-i-preserved : goal.loop-i-preserved
loop-i-preserved c =
    let says = c.is_sent.ensures in
    let inv = c.loop-i.invariant in
    elim c.if-is_sent.branch [
      | then-is_sent w ↦
          let is : true ≡ get_or (flags_under c.args.masks.now c.args.bits c.args.tails) c.loop-i.i false = sym w.if-is_sent.true ∙ says in
          record {
            turn = turn_next _ _ _ (omega arith) says inv.turn (rw w.if-is_sent.true w.at-is);
            filled = rw w.places-is (filled_more (omega arith) (rw (← is, ← inv.turn.is) (search rules)) inv.filled);
          }
      | else-is_sent w ↦
          let is : false ≡ get_or (flags_under c.args.masks.now c.args.bits c.args.tails) c.loop-i.i false = sym w.if-is_sent.false ∙ says in
          record {
            turn = turn_next _ _ _ (omega arith) says inv.turn (rw w.if-is_sent.false w.at-is);
            filled = rw w.places-is (filled_more (omega arith) (rw (← is)) inv.filled);
          }
    ]

pub returns : goal.returns
returns c =
    let n = flags_length c.args.masks.now c.args.bits c.args.tails in
    let e : c.loop-i.i ≡ length (flags_under c.args.masks.now c.args.bits c.args.tails) = omega arith in
    spread_filled (pos 0) _ _ _ (omega arith) (rw e at c.loop-i.invariant.filled)
