-- A worked pattern: K, f1 and f2 of 40, 3, 10 (document 02, request 1).
-- Assumes nothing.
use Rattle.std.specs.Prelude.{◌≡◌, refl, [], ◌∷◌, take}
use Rattle.lists.specs.Lists.{listed}
use Rattle.polynomial.specs.Polynomial.{pattern_call_of, entry_at, entries}

the_pattern_40_3_10_starts_0_13_6_19_12 : take 5 (entries (pattern_call_of 40 3 10)) ≡ 0 ∷ 13 ∷ 6 ∷ 19 ∷ 12 ∷ []
unfolding entries entry_at listed
the_pattern_40_3_10_starts_0_13_6_19_12 = refl
