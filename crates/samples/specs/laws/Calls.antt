-- What the values of samples ask for.
-- Assumes nothing.
use Rattle.std.specs.Prelude.{◌≡◌, Float, ℤ, length}
use Rattle.std.proofs.Math.Bool.{true}
use mathlib.Core.List.{List}
use Rattle.std.specs.Float.Ieee.Scale.{finite}
use Rattle.lists.specs.Lists.{every}
use Rattle.samples.specs.Samples.{◌*ᶠ◌}

-- what the loop over the samples relies on
pub record Ready (factor scale : Float) (samples : List Float) (values : List ℤ) : Type 0 where
  pub finite_gain : finite (factor *ᶠ scale) ≡ true
  pub finite_samples : every finite samples ≡ true
  pub same_length : length samples ≡ length values
