-- What the definitions say of integers beyond the library's: the larger and the smaller of two, limits and halves.
-- Assumes nothing.
use Rattle.std.specs.Prelude.{Bool, cond, ℕ, leb, ℤ, pos, neg_ℤ, nat_abs}
use Rattle.std.specs.Int.Signed.{lt_z, quot_z}

-- the larger and the smaller of two
unfoldable pub max_ℤ : ℤ → ℤ → ℤ
max_ℤ a b = cond (lt_z a b) b a

unfoldable pub min_ℤ : ℤ → ℤ → ℤ
min_ℤ a b = cond (lt_z a b) a b

-- z is in -b..b
unfoldable pub inside : ℕ → ℤ → Bool
inside b z = leb (nat_abs z) b

-- limited to -b..b
unfoldable pub limited : ℕ → ℤ → ℤ
limited b z = max_ℤ (neg_ℤ (pos b)) (min_ℤ z (pos b))

-- half, rounded towards zero
unfoldable pub half : ℤ → ℤ
half z = quot_z z (pos 2)
