-- The values passed are all within the limit, or one of them is not.
use Rattle.std.specs.Prelude.{◌≡◌, take}
use Rattle.integers.specs.Integers.{inside}
use Rattle.lists.specs.Lists.{every}
use Rattle.trellis.proofs.checks.all_inside.Given as goal

abbrev pub invariant-loop-x : goal.invariant-loop-x
invariant-loop-x l = l.all ≡ every (inside l.limit) (take l.x-index l.xs)
