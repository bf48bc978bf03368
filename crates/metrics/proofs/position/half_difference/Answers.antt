use Rattle.std.specs.Prelude.{◌≡◌, true}
use Rattle.std.proofs.Common.{sym}
use Rattle.integers.specs.Integers.{half, inside}
use Rattle.integers.specs.laws.Linear.{plain}
use Rattle.metrics.specs.Words.{best_limit}
use Rattle.metrics.proofs.Held.{Fitting, inside_fitting}
use Rattle.metrics.proofs.position.half_difference.Goals as goal

zero-inside : (c : goal.Then-is_best-2) → inside best_limit c.args.zero ≡ true
zero-inside c = let x = c.ranges.zero in sym (simp plain at c.if-is_best.ensures)

one_inside : (c : goal.Then-is_best-2) → inside best_limit c.args.one ≡ true
one_inside c = let y = c.ranges.one in sym (simp plain at c.if-is_best-2.ensures)

fitting : (c : goal.Then-is_best-2) → Fitting c.args.one c.args.zero
fitting c = inside_fitting _ _ (one_inside c) (zero-inside c)

pub overflow_sub-result : goal.overflow_sub-result
overflow_sub-result c = let (y, x, difference, half) = fitting c in simp plain difference

pub returns-then-is_best-2 : goal.returns-then-is_best-2
unfolding half
returns-then-is_best-2 c =
    let (y, x, difference, half) = fitting c in
    rw (zero-inside c, one_inside c) (simp plain)
