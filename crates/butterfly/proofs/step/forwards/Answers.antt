use native.Mathlib.Omega.{arith}
use mathlib.Core.Path.{◌≡◌, refl, sym, ◌∙◌}
use Prim.Native.Nat.{◌+◌, ◌*◌, ◌<◌}
use lib.IntN.{pos}
use lib.ListN.{length, get_or, length-set}
use mir.Facts.{to_z-of_z}
use mir.Syntax.{w32}
use mir.Val.{to_z, of_z}
use Rattle.integers.specs.laws.Linear.{fits_of}
use Rattle.trellis.specs.laws.Sweeps.{advance}
use Rattle.metrics.specs.Words.{held, row}
use Rattle.butterfly.specs.laws.Metrics.{gain_at, even_after, odd_after}
use Rattle.butterfly.proofs.Entries.{side_by_side}
use Rattle.butterfly.proofs.Sums.{kept, stands, gain_read, gain_within}
use Rattle.butterfly.proofs.step.forwards.Goals as goal

pub loop-i-init : goal.loop-i-init
loop-i-init c = record { long = refl; rows = λ target branch-metric wings s l. absurd (omega arith) }

pub either-requires-clause-within : goal.either-requires-clause-within
either-requires-clause-within c =
    gain_within c.args.signs.now c.loop-i.i c.args.values.own_small c.args.values.other_small c.gain_at-h.type_inv c.gain_at-h.ensures

pub either-requires-clause-x_value : goal.either-requires-clause-x_value
either-requires-clause-x_value c p =
    let full = c.requires.reached p in
    let small = c.requires.held.small in
    let near : c.loop-i.i < c.args.half + c.args.half = omega (arith, c.loop-i-test.true) in
    let far : c.loop-i.i + c.args.half < c.args.half + c.args.half = omega (arith, c.loop-i-test.true) in
    (stands (get_or c.args.m c.loop-i.i (pos 0)) (omega arith) (full.there _ near) (small _ near), stands (get_or c.args.m (c.loop-i.i + c.args.half) (pos 0)) (omega arith) (full.there _ far) (small _ far))

pub either-requires-in-loop-i-clause-within : goal.either-requires-in-loop-i-clause-within
either-requires-in-loop-i-clause-within c =
    gain_within c.args.signs.now c.loop-i.i c.args.values.own_small c.args.values.other_small c.gain_at-h.type_inv c.gain_at-h.ensures

pub either-requires-in-loop-i-clause-x_value : goal.either-requires-in-loop-i-clause-x_value
either-requires-in-loop-i-clause-x_value c p =
    let full = c.requires.reached p in
    let small = c.requires.held.small in
    let near : c.loop-i.i < c.args.half + c.args.half = omega (arith, c.loop-i-test.true) in
    let far : c.loop-i.i + c.args.half < c.args.half + c.args.half = omega (arith, c.loop-i-test.true) in
    (stands (get_or c.args.m (c.loop-i.i + c.args.half) (pos 0)) (omega arith) (full.there _ far) (small _ far), stands (get_or c.args.m c.loop-i.i (pos 0)) (omega arith) (full.there _ near) (small _ near))

pub loop-i-preserved : goal.loop-i-preserved
loop-i-preserved c =
    let so_far = c.loop-i.invariant in
    let half = c.args.half in
    let i = c.loop-i.i in
    let inside = c.loop-i-test.true in
    let near : to_z w32 (of_z w32 (get_or c.args.m i (pos 0))) ≡ get_or c.args.m i (pos 0) = to_z-of_z {w = w32} (fits_of c.p-1.given) in
    let far : to_z w32 (of_z w32 (get_or c.args.m (i + half) (pos 0))) ≡ get_or c.args.m (i + half) (pos 0) =
    to_z-of_z {w = w32} (fits_of c.q-1.given) in
    let gain : to_z w32 (of_z w32 c.gain_at-h.result) ≡ gain_at c.args.signs.now c.args.values.own c.args.values.other i =
    gain_read c.args.signs.now i c.args.values.own_small c.args.values.other_small c.gain_at-h.type_inv c.gain_at-h.ensures in
    let room : 2 * i + 1 < length c.loop-i.out = rw so_far.long (omega (arith, inside, c.requires.few)) in
    record {
      long = simp length-set so_far.long;
      rows = λ target branch-metric wings.
          side_by_side (λ s z. held z ≡ advance target branch-metric (half + half) (row c.args.m) s)
          c.loop-i.out i _ _ room (so_far.rows target branch-metric wings)
          (kept c.either.result c.either.type_inv (rw (near, far, gain) at c.either.ensures ∙ sym (even_after wings (row c.args.m) i inside)))
          (kept c.either-in-loop-i.result c.either-in-loop-i.type_inv
          (rw (near, far, gain) at c.either-in-loop-i.ensures ∙ sym (odd_after wings (row c.args.m) i inside)));
    }

pub returns : goal.returns
returns c target branch-metric wings s l =
    c.loop-i.invariant.rows target branch-metric wings s (omega (arith, c.loop-i-test.false))
