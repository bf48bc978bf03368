-- The rules of handing over and of deciding (document 01, "Frame").
-- Assumes nothing.
use Rattle.std.specs.Prelude.{ℕ, ℤ, pos, negsuc, ◌*ℤ◌}
use Rattle.std.specs.Int.Signed.{quot_z}
use Rattle.integers.specs.Integers.{limited}
use Rattle.trellis.specs.Limits.{apriori_limit}

-- an extrinsic as the other pass's a-priori value: three quarters of it, rounded towards zero, then limited to -8,191..8,191
unfoldable pub hand_over : ℤ → ℤ
hand_over e = limited apriori_limit (quot_z (pos 3 *ℤ e) (pos 4))

-- the bit of a margin: 0 or more is bit 1
unfoldable pub decided : ℤ → ℕ
decided (pos m) = 1
decided (negsuc m) = 0
