use native.Mathlib.Omega.{arith}
use mathlib.Core.Path.{◌≡◌, refl, sym, ap₂, ◌∙◌}
use mathlib.Core.Bool.{Bool, cond}
use mathlib.Core.Option.{Option, some}
use Prim.Native.Nat.{ℕ, ◌+◌, ◌*◌, ◌<◌}
use lib.IntN.{ℤ, pos, neg_ℤ, ◌-ℤ◌}
use lib.ListN.{length, get_or, length-set}
use mir.Facts.{to_z-of_z}
use mir.Syntax.{w32}
use mir.Val.{to_z, of_z}
use Rattle.integers.specs.laws.Bounds.{Within}
use Rattle.integers.specs.laws.Linear.{fits_of}
use Rattle.trellis.specs.Outcome.{larger}
use Rattle.trellis.specs.laws.MaxPlus.{plus}
use Rattle.trellis.specs.laws.Over.{over_zero}
use Rattle.trellis.specs.laws.Sweeps.{Row, retreat, passing}
use Rattle.metrics.specs.Words.{held, row, row_at}
use Rattle.butterfly.specs.laws.Halves.{over_halves}
use Rattle.butterfly.specs.laws.Metrics.{gain_at, straight_at, near_before, far_before, zero_through, one_through}
use Rattle.butterfly.proofs.Entries.{near_more, far_more, both_halves, over_more, held_cond}
use Rattle.butterfly.proofs.Sums.{kept, opposite_small, opposite_fits, opposite_read, stands, gain_read, gain_within}
use Rattle.butterfly.proofs.step.backwards.Goals as goal

pub loop-i-init : goal.loop-i-init
loop-i-init c = record {
  long = refl;
  so_far = λ target branch-metric wings. record {
    near = λ s l. absurd (omega arith);
    far = λ s l. absurd (omega arith);
    zero_is = sym (over_zero _);
    one_is = sym (over_zero _);
  };
}

pub either-requires-clause-within : goal.either-requires-clause-within
either-requires-clause-within c =
    gain_within c.args.signs.now c.loop-i.i c.args.values.own_small c.args.values.other_small c.gain_at-h.type_inv c.gain_at-h.ensures

pub either-requires-clause-x_value : goal.either-requires-clause-x_value
either-requires-clause-x_value c p =
    let full = (c.requires.reached p).0 in
    let small = c.requires.held.small in
    let even : 2 * c.loop-i.i < c.args.half + c.args.half = omega (arith, c.loop-i-test.true) in
    let odd : 2 * c.loop-i.i + 1 < c.args.half + c.args.half = omega (arith, c.loop-i-test.true) in
    (stands (get_or c.args.m (2 * c.loop-i.i) (pos 0)) (omega arith) (full.there _ even) (small _ even), stands (get_or c.args.m (2 * c.loop-i.i + 1) (pos 0)) (omega arith) (full.there _ odd) (small _ odd))

pub either-requires-in-loop-i-clause-within : goal.either-requires-in-loop-i-clause-within
either-requires-in-loop-i-clause-within c =
    gain_within c.args.signs.now c.loop-i.i c.args.values.own_small c.args.values.other_small c.gain_at-h.type_inv c.gain_at-h.ensures

pub either-requires-in-loop-i-clause-x_value : goal.either-requires-in-loop-i-clause-x_value
either-requires-in-loop-i-clause-x_value c p =
    let full = (c.requires.reached p).0 in
    let small = c.requires.held.small in
    let even : 2 * c.loop-i.i < c.args.half + c.args.half = omega (arith, c.loop-i-test.true) in
    let odd : 2 * c.loop-i.i + 1 < c.args.half + c.args.half = omega (arith, c.loop-i-test.true) in
    (stands (get_or c.args.m (2 * c.loop-i.i + 1) (pos 0)) (omega arith) (full.there _ odd) (small _ odd), stands (get_or c.args.m (2 * c.loop-i.i) (pos 0)) (omega arith) (full.there _ even) (small _ even))

pub through_at-straight-requires-clause-small : goal.through_at-straight-requires-clause-small
through_at-straight-requires-clause-small c =
    rw (to_z-of_z {w = w32} (fits_of c.p-1.given)) (c.requires.held.small (2 * c.loop-i.i) (omega (arith, c.loop-i-test.true)))

pub through_at-straight-requires-clause-small_2 : goal.through_at-straight-requires-clause-small_2
through_at-straight-requires-clause-small_2 c =
    rw (to_z-of_z {w = w32} (fits_of c.q-1.given)) (c.requires.held.small (2 * c.loop-i.i + 1) (omega (arith, c.loop-i-test.true)))

pub through_at-straight-requires-clause-within : goal.through_at-straight-requires-clause-within
through_at-straight-requires-clause-within c =
    gain_within c.args.signs.now c.loop-i.i c.args.values.own_small c.args.values.other_small c.gain_at-h.type_inv c.gain_at-h.ensures

pub through_at-straight-requires-clause-reached : goal.through_at-straight-requires-clause-reached
through_at-straight-requires-clause-reached c p =
    let full = (c.requires.reached p).0 in
    let small = c.requires.held.small in
    let even : 2 * c.loop-i.i < c.args.half + c.args.half = omega (arith, c.loop-i-test.true) in
    let odd : 2 * c.loop-i.i + 1 < c.args.half + c.args.half = omega (arith, c.loop-i-test.true) in
    ((c.requires.reached p).1, stands (get_or c.args.m (2 * c.loop-i.i) (pos 0)) (omega arith) (full.there _ even) (small _ even), stands (get_or c.args.m (2 * c.loop-i.i + 1) (pos 0)) (omega arith) (full.there _ odd) (small _ odd))

pub overflow_sub-h : goal.overflow_sub-h
overflow_sub-h c = opposite_fits (gain_within c.args.signs.now c.loop-i.i c.args.values.own_small c.args.values.other_small c.gain_at-h.type_inv c.gain_at-h.ensures)

pub through_at-crossed-requires-clause-small : goal.through_at-crossed-requires-clause-small
through_at-crossed-requires-clause-small c =
    rw (to_z-of_z {w = w32} (fits_of c.q-1.given)) (c.requires.held.small (2 * c.loop-i.i + 1) (omega (arith, c.loop-i-test.true)))

pub through_at-crossed-requires-clause-small_2 : goal.through_at-crossed-requires-clause-small_2
through_at-crossed-requires-clause-small_2 c =
    rw (to_z-of_z {w = w32} (fits_of c.p-1.given)) (c.requires.held.small (2 * c.loop-i.i) (omega (arith, c.loop-i-test.true)))

pub through_at-crossed-requires-clause-within : goal.through_at-crossed-requires-clause-within
through_at-crossed-requires-clause-within c =
    let small : Within 10237 (to_z w32 (of_z w32 c.gain_at-h.result)) = gain_within c.args.signs.now c.loop-i.i c.args.values.own_small c.args.values.other_small c.gain_at-h.type_inv c.gain_at-h.ensures in
    rw (opposite_read small) (opposite_small small)

pub through_at-crossed-requires-clause-reached : goal.through_at-crossed-requires-clause-reached
through_at-crossed-requires-clause-reached c p =
    let full = (c.requires.reached p).0 in
    let small = c.requires.held.small in
    let even : 2 * c.loop-i.i < c.args.half + c.args.half = omega (arith, c.loop-i-test.true) in
    let odd : 2 * c.loop-i.i + 1 < c.args.half + c.args.half = omega (arith, c.loop-i-test.true) in
    ((c.requires.reached p).1, stands (get_or c.args.m (2 * c.loop-i.i + 1) (pos 0)) (omega arith) (full.there _ odd) (small _ odd), stands (get_or c.args.m (2 * c.loop-i.i) (pos 0)) (omega arith) (full.there _ even) (small _ even))

pub loop-i-preserved : goal.loop-i-preserved
loop-i-preserved c =
    let known = c.loop-i.invariant in
    let half = c.args.half in
    let i = c.loop-i.i in
    let inside = c.loop-i-test.true in
    let after : Row = row c.args.m in
    let before : Row = row_at c.args.work.now c.args.at in
    let x : ℤ = get_or c.args.m (2 * i) (pos 0) in
    let y : ℤ = get_or c.args.m (2 * i + 1) (pos 0) in
    let even : to_z w32 (of_z w32 x) ≡ x = to_z-of_z {w = w32} (fits_of c.p-1.given) in
    let odd : to_z w32 (of_z w32 y) ≡ y = to_z-of_z {w = w32} (fits_of c.q-1.given) in
    let h : ℤ = gain_at c.args.signs.now c.args.values.own c.args.values.other i in
    let gain : to_z w32 (of_z w32 c.gain_at-h.result) ≡ h =
    gain_read c.args.signs.now i c.args.values.own_small c.args.values.other_small c.gain_at-h.type_inv c.gain_at-h.ensures in
    let small : Within 10237 (to_z w32 (of_z w32 c.gain_at-h.result)) = gain_within c.args.signs.now c.loop-i.i c.args.values.own_small c.args.values.other_small c.gain_at-h.type_inv c.gain_at-h.ensures in
    let against : to_z w32 (of_z w32 (pos 0 -ℤ to_z w32 (of_z w32 c.gain_at-h.result))) ≡ neg_ℤ h = opposite_read small ∙ rw gain in
    let straight : ℤ = to_z w32 (of_z w32 c.through_at-straight.result) in
    let crossed : ℤ = to_z w32 (of_z w32 c.through_at-crossed.result) in
    let straight-held : held straight ≡ larger (plus (before i) (plus (held x) (some h))) (plus (before (i + half)) (plus (held y) (some h))) =
    kept c.through_at-straight.result c.through_at-straight.type_inv (rw (even, odd, gain) at c.through_at-straight.ensures) in
    let crossed-held :
    held crossed ≡ larger (plus (before i) (plus (held y) (some (neg_ℤ h)))) (plus (before (i + half)) (plus (held x) (some (neg_ℤ h)))) =
    kept c.through_at-crossed.result c.through_at-crossed.type_inv (rw (against, even, odd) at c.through_at-crossed.ensures) in
    let bit : Bool = straight_at c.args.signs.now i in
    let room : i + half < length c.loop-i.out = rw known.long (omega (arith, inside, c.requires.few)) in
    record {
      long = simp length-set known.long;
      so_far = λ target branch-metric wings.
          let so_far = known.so_far target branch-metric wings in
          let P : ℕ → ℤ → Type 0 = λ s z. held z ≡ retreat target branch-metric after s in
          let passes : ℕ → Option ℤ = λ b. larger (passing target branch-metric before after b i) (passing target branch-metric before after b (i + half)) in
          let zero-goes : held (cond bit straight crossed) ≡ passes 0 =
          held_cond bit straight crossed ∙ ap₂ (cond bit) straight-held crossed-held ∙ sym (zero_through wings after i inside before) in
          let one-goes : held (cond bit crossed straight) ≡ passes 1 =
          held_cond bit crossed straight ∙ ap₂ (cond bit) crossed-held straight-held ∙ sym (one_through wings after i inside before) in
          record {
            near = near_more P c.loop-i.out i _ _ half inside room so_far.near
                (kept c.either.result c.either.type_inv (rw (even, odd, gain) at c.either.ensures ∙ sym (near_before wings after i inside)));
            far = far_more P c.loop-i.out i _ _ half inside room so_far.far
                (kept c.either-in-loop-i.result c.either-in-loop-i.type_inv
                (rw (even, odd, gain) at c.either-in-loop-i.ensures ∙ sym (far_before wings after i inside)));
            zero_is = kept c.raised-zero.result c.raised-zero.type_inv c.raised-zero.ensures ∙ ap₂ larger so_far.zero_is zero-goes ∙ sym (over_more i _);
            one_is = kept c.raised-one.result c.raised-one.type_inv c.raised-one.ensures ∙ ap₂ larger so_far.one_is one-goes ∙ sym (over_more i _);
          };
    }

pub returns : goal.returns
returns c target branch-metric wings =
    let end : c.loop-i.i ≡ c.args.half = omega (arith, c.loop-i-test.false, c.loop-i.auto.i-end) in
    let so_far = c.loop-i.invariant.so_far target branch-metric wings in
    record {
      metrics_are = both_halves (λ s. row c.loop-i.out s ≡ retreat target branch-metric (row c.args.m) s)
          (λ s l. so_far.near s (omega arith)) (λ s l. so_far.far s (omega arith));
      zero_is = rw end at so_far.zero_is ∙ sym (over_halves _ c.args.half);
      one_is = rw end at so_far.one_is ∙ sym (over_halves _ c.args.half);
    }
