use Rattle.std.proofs.Common.{◌∙◌, ◌≡◌, ap₂, sym, ◌&&◌, refl, get_or, Bool, ℤ, pos, rules}
use mir.Val.{SFits}
use Rattle.std.specs.Int.{w16}
use Rattle.integers.specs.Integers.{inside}
use Rattle.integers.specs.laws.Linear.{plain}
use Rattle.lists.specs.Lists.{every}
use Rattle.lists.specs.laws.Every.{every_take}
use Rattle.trellis.proofs.checks.all_inside.Goals as goal

pub loop-x-init : goal.loop-x-init
unfolding every
loop-x-init c = refl

-- the value looked at is the list's own
pub loop-x-preserved : goal.loop-x-preserved
loop-x-preserved c =
    let value : ℤ = get_or c.args.xs.now c.loop-x.x-index (pos 0) in
    let fits : SFits w16 value = search rules in
    let tested : c.inside-all.result ≡ inside c.args.limit value = simp plain at c.inside-all.ensures in
    ap₂ ◌&&◌ c.loop-x.invariant tested ∙ sym (every_take (inside c.args.limit) (pos 0) c.args.xs.now c.loop-x.x-index c.loop-x-test.true)
