use Rattle.std.proofs.Common.{◌≡◌, get_or, pos, true, false, sym, arith, rules, FitsSigned, to_z-of_z, length-set}
use Rattle.std.specs.Int.{w16, w32}
use borrow.Author.Count.{below_more}
use Rattle.std.proofs.lemmas.Grind.{common_steps}
use Rattle.std.proofs.Math.Seq.{ext_get_or}
use Rattle.integers.specs.Integers.{inside}
use Rattle.integers.specs.laws.Linear.{ints}
use Rattle.integers.specs.laws.Parts.{parts}
use Rattle.lists.specs.laws.Every.{at_every, every_not}
use Rattle.trellis.specs.Limits.{channel_fits}
use Rattle.sheet.proofs.values.narrow_all.Goals as goal

pub returns-then-not-is_small-clause-value : goal.returns-then-not-is_small-clause-value
unfolding channel_fits
returns-then-not-is_small-clause-value c =
    let values = c.args.values.now in
    let value = get_or values c.loop-i.i (pos 0) in
    let fits : FitsSigned w32 value = search rules in
    let e = to_z-of_z fits in
    let outside : inside 1023 value ≡ false = cc in
    sym (every_not (inside 1023) (pos 0) values c.loop-i.i outside (omega arith))

pub overflow_cast-out : goal.overflow_cast-out
overflow_cast-out c =
    let value = get_or c.args.values.now c.loop-i.i (pos 0) in
    let fits : FitsSigned w32 value = search rules in
    let e = to_z-of_z fits in
    let small : inside 1023 value ≡ true = cc in
    rw e (simp ints (omega (arith, parts)))

pub loop-i-preserved : goal.loop-i-preserved
loop-i-preserved c =
    let inv = c.loop-i.invariant in
    let value = get_or c.args.values.now c.loop-i.i (pos 0) in
    let fits : FitsSigned w32 value = search rules in
    let e = to_z-of_z fits in
    let small : inside 1023 value ≡ true = cc in
    let fits_16 : FitsSigned w16 value = simp ints (omega (arith, parts)) in
    rw (e, to_z-of_z fits_16) (
      simp length-set inv.0,
      below_more _ _ inv.1 small,
      λ j h. grind (arith, common_steps, inv.2 j),
    )

pub returns-clause-value : goal.returns-clause-value
unfolding channel_fits
returns-clause-value c = sym (at_every (inside 1023) (pos 0) c.args.values.now (λ j h. c.loop-i.invariant.1 j (omega arith)))

pub returns-clause-out_after : goal.returns-clause-out_after
returns-clause-out_after c = λ e.
    let inv = c.loop-i.invariant in
    ext_get_or (pos 0) _ _ inv.0 (λ j h. inv.2 j (omega (arith, inv.0)))
