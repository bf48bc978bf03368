-- So far it is the test of the samples that have been looked at.
-- Assumes nothing.
use Rattle.std.proofs.Common.{◌≡◌, take}
use Rattle.std.specs.Float.Ieee.Scale.{finite}
use Rattle.lists.specs.Lists.{every}
use Rattle.samples.proofs.all_finite.Given as goal

abbrev pub invariant-loop-sample : goal.invariant-loop-sample
invariant-loop-sample l = l.all ≡ every finite (take l.sample-index l.samples)
