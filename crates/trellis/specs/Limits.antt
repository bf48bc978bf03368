-- The limits of what a pass is lent (document 01, "Table, path and metric"), as the tests behind refusals 4, 6 and 16, and where the first value outside
-- them sits (document 02, request 2).
-- Assumes nothing.
use Rattle.std.specs.Prelude.{Bool, ◌&&◌, List, ℕ, ◌≤◌, ◌<◌, leb, ℤ, pos, nat_abs, length, get_or}
use Rattle.integers.specs.Integers.{inside}
use Rattle.lists.specs.Lists.{every, first_failing}
use Rattle.refusal.specs.declared.Refusal.TheVariants.{Value, Apriori}
use Rattle.refusal.specs.Refusals.{Check, ◌unless◌}

-- channel values are in -1,023..1,023, a-priori values in -8,191..8,191, and a pass has at most 4,096 sections
abbrev pub channel_limit : ℕ
channel_limit = 1023

abbrev pub apriori_limit : ℕ
apriori_limit = 8191

abbrev pub section_limit : ℕ
section_limit = 4096

-- N is within its limits (not so: 4)
unfoldable pub sections_fit : ℕ → Bool
sections_fit n = leb 1 n && leb n section_limit

-- no value is outside its limits (not so: 6 of channel values, 16 of a-priori values)
unfoldable pub channel_fits : List ℤ → Bool
channel_fits xs = every (inside channel_limit) xs

unfoldable pub apriori_fits : List ℤ → Bool
apriori_fits xs = every (inside apriori_limit) xs

-- the index of the first value outside a limit, in its list as lent; the length where there is none
unfoldable pub first_outside : ℕ → List ℤ → ℕ
first_outside limit xs = first_failing (inside limit) xs

-- 6 and 16, each with that index
abbrev pub channel_check : List ℤ → Check
channel_check xs = Value (first_outside channel_limit xs) unless channel_fits xs

abbrev pub apriori_check : List ℤ → Check
apriori_check xs = Apriori (first_outside apriori_limit xs) unless apriori_fits xs

-- what the index means, said without a search: the value there is outside the limit, and none before it is
pub record IsFirstOutside (limit : ℕ) (xs : List ℤ) (i : ℕ) : Type 0 where
  pub in_list : i < length xs
  pub outside : limit < nat_abs (get_or xs i (pos 0))
  pub inside_before : (j : ℕ) → j < i → nat_abs (get_or xs j (pos 0)) ≤ limit
