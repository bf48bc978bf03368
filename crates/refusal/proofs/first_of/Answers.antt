-- The library's `and` of two replies is the definition's `then`.
use Rattle.std.specs.Prelude.{◌≡◌, Ok, Err, refl}
use Rattle.std.proofs.Common.{◌∙◌}
use Rattle.std.specs.Result.{result_and}
use Rattle.refusal.specs.Refusals.{Reply, ◌then◌}
use Rattle.refusal.proofs.first_of.Goals as goal

and_is_then : (x y : Reply) → result_and x y ≡ (x then y)
unfolding ◌then◌
and_is_then (Ok tt) y = refl
and_is_then (Err r) y = refl

pub returns : goal.returns
returns c = c.and.ensures ∙ and_is_then c.args.x c.args.y
