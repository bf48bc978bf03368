use mathlib.Core.Path.{◌≡◌, ap, ◌∙◌}
use mathlib.Core.Logic.{inl, inr}
use mathlib.Core.Option.{none, some}
use native.Mathlib.Omega.{arith}
use lib.IntN.{ℤ, ◌+ℤ◌}
use mir.Syntax.{w32}
use mir.Val.{SFits}
use Rattle.integers.specs.laws.Bounds.{Within}
use Rattle.integers.specs.laws.Laws.{within_more}
use Rattle.integers.specs.laws.Linear.{plain}
use Rattle.trellis.specs.laws.MaxPlus.{plus, plus_comm}
use Rattle.trellis.specs.laws.Sizes.{Small}
use Rattle.trellis.proofs.laws.Sizes.{small_known}
use Rattle.metrics.specs.Words.{held}
use Rattle.metrics.specs.laws.Held.{held_none, held_some}
use Rattle.butterfly.proofs.Sums.{small_fits, sum_there}
use Rattle.butterfly.proofs.step.meet.Goals as goal

-- the sum, where both are there
sum_of :
    (f m : ℤ) → Small 50311168 (held f) → Small 50321405 (held m) → (held f ≡ some f) × (held m ≡ some m)
    → SFits w32 (f +ℤ m) × (held (f +ℤ m) ≡ plus (held f) (held m))
sum_of f m f-small m-small (before, after) =
    let sum : Within 100632573 (f +ℤ m) × (held (f +ℤ m) ≡ plus (held f) (some m)) =
    sum_there {a = 50311168} {b = 50321405} f m (omega arith) before f-small (small_known (rw after at m-small)) in
    (small_fits _ (within_more (omega arith) sum.0), sum.1 ∙ ap (plus (held f)) (rw after))

-- where it is worked out, they are
both : (c : goal.Then-m-ne-NOTHING) → (held c.args.f ≡ some c.args.f) × (held c.args.m ≡ some c.args.m)
both c = elim c.if-m-ne-NOTHING.either [ inl p ↦ c.requires.f_value p | inr q ↦ (held_some _ q.1, held_some _ q.2) ]

pub overflow_add-result : goal.overflow_add-result
overflow_add-result c =
    let f-fits = c.ranges.f in
    let m-fits = c.ranges.m in
    simp plain (sum_of c.args.f c.args.m c.requires.small c.requires.small_2 (both c)).0

pub returns-then-m-ne-NOTHING : goal.returns-then-m-ne-NOTHING
returns-then-m-ne-NOTHING c =
    let f-fits = c.ranges.f in
    let m-fits = c.ranges.m in
    let (fits, is) = sum_of c.args.f c.args.m c.requires.small c.requires.small_2 (both c) in
    simp plain is

pub returns-else-m-ne-NOTHING : goal.returns-else-m-ne-NOTHING
unfolding plus
returns-else-m-ne-NOTHING c = elim c.if-m-ne-NOTHING.either [
  | inl q ↦ rw (held_none c.args.m q.2) (plus_comm none (held c.args.f))
  | inr q ↦ rw (held_none c.args.f q.1)
]
