-- Every entry is filled.
-- Assumes nothing.
use Rattle.std.proofs.Common.{◌≡◌, length, pos, arith, rules}
use Rattle.std.specs.Float.{nan}
use Rattle.samples.specs.Samples.{◌*ᶠ◌, nearest_value}
use Rattle.samples.proofs.laws.Calls.{filled_map}
use Rattle.samples.proofs.fill.Goals as goal

pub returns : goal.returns
returns c =
    let same : length c.args.samples.now ≡ length c.loop-i.values = omega arith in
    filled_map (λ x. nearest_value ((c.args.factor *ᶠ c.args.scale) *ᶠ x)) nan (pos 0) c.args.samples.now c.loop-i.values same (search rules)
