-- The entries so far are the samples' values.
-- Assumes nothing.
use Rattle.std.proofs.Common.{get_or, pos}
use Rattle.std.specs.Float.{nan}
use Rattle.lists.specs.laws.Stores.{Filled}
use Rattle.samples.specs.Samples.{◌*ᶠ◌, nearest_value}
use Rattle.samples.proofs.fill.Given as goal

abbrev pub invariant-loop-i : goal.invariant-loop-i
invariant-loop-i l = Filled (pos 0) (λ j. nearest_value ((l.factor *ᶠ l.scale) *ᶠ get_or l.samples j nan)) l.values l.i
