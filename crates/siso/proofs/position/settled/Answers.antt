use Rattle.std.specs.Prelude.{◌≡◌, refl, true, false, cond, ◌&&◌, ℤ, pos, ◌-ℤ◌}
use Rattle.std.proofs.Common.{sym, ◌∙◌, arith, SFits}
use Rattle.std.proofs.Math.Option.{Option, none, some}
use Rattle.std.proofs.lemmas.Bool.{false≢true}
use Rattle.std.specs.Int.{w32}
use Rattle.integers.specs.Integers.{half}
use Rattle.integers.specs.laws.Bounds.{Within}
use Rattle.integers.specs.laws.Laws.{inside_is}
use Rattle.integers.specs.laws.Linear.{ints, plain}
use Rattle.lists.specs.Lists.{found}
use Rattle.lists.specs.laws.Tests.{and_both}
use Rattle.trellis.specs.declared.Outcome.TheVariants.{Forced}
use Rattle.trellis.specs.Outcome.{outcome_of, position_of, extrinsic}
use Rattle.trellis.proofs.laws.Sizes.{small_known}
use Rattle.metrics.specs.Words.{held, best_limit}
use Rattle.metrics.specs.laws.Held.{found_some}
use Rattle.siso.proofs.position.settled.Goals as goal

-- where one metric is not there, the other is, and its bit is told
forced-by :
    (x y : Option ℤ) (i : ℤ)
    → (found x && found y) ≡ false → (outcome_of x y ≡ none → ⊥)
    → some (record { outcome = Forced (cond (found y) 1 0); extrinsic = pos 0 }) ≡ position_of i (outcome_of x y)
unfolding outcome_of position_of extrinsic found
forced-by none none i e known = absurd (known refl)
forced-by none (some y) i e known = refl
forced-by (some x) none i e known = refl
forced-by (some x) (some y) i e known = absurd (false≢true (sym e))

-- what is computed of two metrics and the intrinsic part fits
abbrev Fitting : ℤ → ℤ → ℤ → Type 0
Fitting y x i = SFits w32 i × SFits w32 (half (y -ℤ x)) × SFits w32 (half (y -ℤ x) -ℤ i)

small-fitting : (y x i : ℤ) → Within 100000000 y → Within 100000000 x → Within 9214 i → Fitting y x i
small-fitting y x i = simp ints (omega arith)

pub returns-then-not-is_free : goal.returns-then-not-is_free
returns-then-not-is_free c =
    let zero = c.ranges.zero in
    let one = c.ranges.one in
    let gone = simp plain at c.is_free.ensures in
    rw (simp plain at c.mark_of.ensures) (forced-by _ _ c.args.intrinsic (sym gone ∙ c.if-not-is_free.true) c.requires.fact)

-- at a free position both metrics are there, and small
module _ (c : goal.After-half_difference-margin) where
  both : (found (held c.args.zero) ≡ true) × (found (held c.args.one) ≡ true)
  both =
      let zero = c.ranges.zero in
      let one = c.ranges.one in
      and_both _ _ (sym (simp plain at c.is_free.ensures) ∙ c.if-not-is_free.false)

  zero-there : held c.args.zero ≡ some c.args.zero
  zero-there = found_some _ both.0

  one-there : held c.args.one ≡ some c.args.one
  one-there = found_some _ both.1

  zero_small : Within 100000000 c.args.zero
  zero_small = small_known (rw zero-there at c.requires.small)

  one_small : Within 100000000 c.args.one
  one_small = small_known (rw one-there at c.requires.small_2)

  fitting : Fitting c.args.one c.args.zero c.args.intrinsic
  fitting = small-fitting _ _ _ one_small zero_small c.requires.within

  -- the margin is half the difference
  margin_is : c.half_difference-margin.result ≡ half (c.args.one -ℤ c.args.zero)
  margin_is =
      let zero-fits = c.ranges.zero in
      let one_fits = c.ranges.one in
      (simp plain at c.half_difference-margin.ensures)
      ∙ rw ((inside_is best_limit _).1 zero_small, (inside_is best_limit _).1 one_small) refl

pub overflow_sub-result : goal.overflow_sub-result
overflow_sub-result c =
    let (i, margin, rest) = fitting c in
    let result : SFits w32 c.half_difference-margin.result = rw (margin_is c) margin in
    simp plain (rw (margin_is c) rest)

pub returns : goal.returns
unfolding outcome_of position_of extrinsic
returns c =
    let (i, margin, rest) = fitting c in
    let result : SFits w32 c.half_difference-margin.result = rw (margin_is c) margin in
    let less : SFits w32 (c.half_difference-margin.result -ℤ c.args.intrinsic) = rw (margin_is c) rest in
    rw (zero-there c, one-there c) (simp plain (rw (margin_is c) refl))
