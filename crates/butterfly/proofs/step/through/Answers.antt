use mathlib.Core.Path.{◌≡◌, sym, ap, ap₂, ◌∙◌}
use mathlib.Core.Option.{Option, some}
use Prim.Native.Nat.{◌^◌, ◌<◌}
use lib.IntN.{ℤ}
use lib.Signed.{mag}
use mir.Facts.{to_z-of_z}
use mir.Syntax.{w32}
use mir.Val.{hbits, to_z, of_z}
use Rattle.integers.specs.laws.Bounds.{Within}
use Rattle.integers.specs.laws.Linear.{fits_of}
use Rattle.trellis.specs.Outcome.{larger}
use Rattle.trellis.specs.laws.MaxPlus.{plus}
use Rattle.trellis.specs.laws.Sizes.{Small}
use Rattle.metrics.specs.Words.{held}
use Rattle.butterfly.proofs.Sums.{kept, same_small, sum_small, sum_stands}
use Rattle.butterfly.proofs.step.through.Goals as goal

-- a path from the branch on, as it is held
module _ (r h : ℤ) {X : Option ℤ} (ok : mag r < 2 ^ hbits w32) (is : held r ≡ plus X (some h)) where
  onward-small : Small 50311168 X → Within 10237 h → Small 50321405 (held (to_z w32 (of_z w32 r)))
  onward-small x-small h-small = same_small (kept r ok is) (sum_small {a = 50311168} {b = 10237} x-small h-small)

  onward-there : {x : ℤ} → X ≡ some x → held (to_z w32 (of_z w32 r)) ≡ some (to_z w32 (of_z w32 r))
  onward-there there = kept r ok (sum_stands r h is there) ∙ ap some (sym (to_z-of_z {w = w32} (fits_of ok)))

-- ---- the first path

pub meet-requires-clause-small_2 : goal.meet-requires-clause-small_2
meet-requires-clause-small_2 c =
    onward-small c.plus.result _ c.plus.type_inv (rw (to_z-of_z c.ranges.x, to_z-of_z c.ranges.h) at c.plus.ensures) c.requires.small_2 c.requires.within

pub meet-requires-clause-f_value : goal.meet-requires-clause-f_value
meet-requires-clause-f_value c p =
    let there = c.requires.f_value p in (
      rw (to_z-of_z c.ranges.f) there.0,
      onward-there c.plus.result _ c.plus.type_inv (rw (to_z-of_z c.ranges.x, to_z-of_z c.ranges.h) at c.plus.ensures) there.1,
    )

-- ---- the second

pub meet-requires-2-clause-small_2 : goal.meet-requires-2-clause-small_2
meet-requires-2-clause-small_2 c =
    onward-small c.plus-2.result _ c.plus-2.type_inv (rw (to_z-of_z c.ranges.y, to_z-of_z c.ranges.h) at c.plus-2.ensures) c.requires.small_4 c.requires.within

pub meet-requires-2-clause-f_value : goal.meet-requires-2-clause-f_value
meet-requires-2-clause-f_value c p =
    let there = c.requires.f_value p in (
      rw (to_z-of_z c.ranges.e) there.2,
      onward-there c.plus-2.result _ c.plus-2.type_inv (rw (to_z-of_z c.ranges.y, to_z-of_z c.ranges.h) at c.plus-2.ensures) there.3,
    )

-- ---- the better

pub returns : goal.returns
returns c =
    let first : held c.meet.result ≡ plus (held c.args.f) (plus (held c.args.x) (some c.args.h)) =
    rw (to_z-of_z c.ranges.f) at c.meet.ensures
    ∙ ap (plus (held c.args.f)) (kept c.plus.result c.plus.type_inv (rw (to_z-of_z c.ranges.x, to_z-of_z c.ranges.h) at c.plus.ensures)) in
    let second : held c.meet-2.result ≡ plus (held c.args.e) (plus (held c.args.y) (some c.args.h)) =
    rw (to_z-of_z c.ranges.e) at c.meet-2.ensures
    ∙ ap (plus (held c.args.e)) (kept c.plus-2.result c.plus-2.type_inv (rw (to_z-of_z c.ranges.y, to_z-of_z c.ranges.h) at c.plus-2.ensures)) in
    kept c.larger.result c.larger.type_inv
    (c.larger.ensures ∙ ap₂ larger (kept c.meet.result c.meet.type_inv first) (kept c.meet-2.result c.meet-2.type_inv second))
