-- The library's test of a finite float is the one of the definitions.
-- Assumes nothing.
use Rattle.std.specs.Prelude.{◌≡◌, refl, Float}
use Rattle.std.specs.Float.{nan, inf, fin, float_is_finite}
use Rattle.std.specs.Float.Ieee.Scale.{finite}

pub library_finite : (x : Float) → float_is_finite x ≡ finite x
unfolding float_is_finite
library_finite nan = refl
library_finite (inf s) = refl
library_finite (fin s m e) = refl
