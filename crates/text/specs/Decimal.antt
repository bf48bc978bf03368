-- Numbers in text (document 01, "Sheet"): at most five digits, no leading zero, no `-0`; and numbers as the program prints them.
-- Assumes nothing.
use Rattle.std.specs.Prelude.{Bool, cond, not, ◌&&◌, ◌||◌, ℕ, zero, suc, ◌+◌, ◌-◌, ◌*◌, ◌/◌, ◌%◌, eqb, leb, ltb, ℤ, pos, negsuc, length, get_or}
use mathlib.Core.List.{List, [], ◌∷◌, ◌++◌, foldl, tail}
use Rattle.std.proofs.Math.Option.{Option, none, some, map, bind}
use Rattle.lists.specs.Lists.{every}
use Rattle.text.specs.Text.{minus}

-- ---- read

abbrev pub is_digit : ℕ → Bool
is_digit b = leb 48 b && leb b 57

-- one to five digits, the first of several not 0
unfoldable pub numeral : List ℕ → Bool
numeral ds = leb 1 (length ds) && leb (length ds) 5 && every is_digit ds && (eqb (length ds) 1 || not (eqb (get_or ds 0 0) 48))

-- the number that digits write
abbrev pub value_of : List ℕ → ℕ
value_of ds = foldl (λ n d. 10 * n + (d - 48)) 0 ds

-- a number with no minus sign, as `at` and `to` have it
unfoldable pub natural : List ℕ → Option ℕ
natural ds = cond (numeral ds) (some (value_of ds)) none

-- a number's opposite, where it is not 0
unfoldable pub opposite : ℕ → Option ℤ
opposite zero = none
opposite (suc n) = some (negsuc n)

-- a value: a number, or a minus sign and a number that is not 0
unfoldable pub integer : List ℕ → Option ℤ
integer ds = cond (eqb (get_or ds 0 0) minus) (bind (natural (tail ds)) opposite) (map pos (natural ds))

-- ---- printed

-- the digits of n, at most f + 1 of them
unfoldable pub digits_in : ℕ → ℕ → List ℕ
digits_in zero n = (48 + n % 10) ∷ []
digits_in (suc f) n = cond (ltb n 10) ((48 + n) ∷ []) (digits_in f (n / 10) ++ ((48 + n % 10) ∷ []))

-- the digits of n: n has at most n + 1
unfoldable pub digits : ℕ → List ℕ
digits n = digits_in n n

unfoldable pub decimal : ℤ → List ℕ
decimal (pos n) = digits n
decimal (negsuc n) = minus ∷ digits (suc n)
