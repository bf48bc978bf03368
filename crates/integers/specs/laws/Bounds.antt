-- What the laws say of integers: a bound on their size, and their parity.
-- Assumes nothing.
use Rattle.std.specs.Prelude.{ℕ, ◌≤◌, ◌%◌, ℤ, nat_abs}

-- z is in -b..b
pub record Within (b : ℕ) (z : ℤ) : Type 0 where
  pub within : nat_abs z ≤ b

-- 0 of an even integer, 1 of an odd one
unfoldable pub parity : ℤ → ℕ
parity z = nat_abs z % 2
