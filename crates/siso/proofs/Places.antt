-- Where a section's entries stand in a list with so many entries a section: they end within the list, and the lists of a pass are not long.
-- Assumes nothing.
use Prim.Native.Nat.{ℕ, ◌+◌, ◌*◌, ◌<◌, ◌≤◌}
use native.Mathlib.Nat.{add-zero, mul-suc, mul_comm, mul-le-mul, mul-le-mul_left}
use native.Mathlib.Omega.{arith}
use lib.IntN.{ℤ, pos}
use lib.ListN.{length, get_or}
use mir.Syntax.{w16}
use mir.Val.{SFits}
use Rattle.integers.specs.laws.Bounds.{Within}
use Rattle.integers.specs.laws.Linear.{ints}
use Rattle.trellis.specs.Table.{Table}
use Rattle.trellis.specs.Path.{Values, apriori_at, channel_at}
use Rattle.siso.specs.laws.Pass.{Pass}
use Rattle.siso.specs.laws.Passed.{table_limits, few_sections, values_bounded}

part_ends : (c : ℕ) {k n : ℕ} → k < n → c * k + c ≤ c * n
part_ends c {k} h = rw (← mul-suc c k) (mul-le-mul_left c h)

module _ {t : Table} {n : ℕ} {v : Values} (p : Pass t n v) {k : ℕ} where
  -- the channel values of section k: there is a first, and the last is in the list
  pub channel_place : k < n → (1 ≤ t.outputs) × (t.outputs * k + t.outputs ≤ length v.channel) × (length v.channel ≤ 16384)
  channel_place h = (
    (table_limits p).some_output,
    rw p.channel_long (part_ends t.outputs h),
    rw p.channel_long (mul-le-mul (table_limits p).most_outputs (few_sections p)),
  )

  -- row k of the working list
  pub work_place : k ≤ n → (t.states * k + t.states ≤ (n + 1) * t.states) × ((n + 1) * t.states ≤ 65552)
  work_place h = (
    rw (mul_comm (n + 1) t.states) (part_ends t.states (omega arith)),
    mul-le-mul {n₂ = 4097} (omega (arith, few_sections p)) (table_limits p).most_states,
  )

-- the values that are read of a section fit in their locals
module _ {t : Table} {n : ℕ} {v : Values} (p : Pass t n v) (k : ℕ) where
  pub apriori_read : SFits w16 (get_or v.apriori k (pos 0))
  unfolding apriori_at
  apriori_read = fits ((values_bounded p).apriori k)
    where
      fits : {z : ℤ} → Within 8191 z → SFits w16 z
      fits {z} = simp ints (omega arith)

  pub channel_read : SFits w16 (get_or v.channel (t.outputs * k) (pos 0))
  unfolding channel_at
  channel_read = fits (rw add-zero at ((values_bounded p).channel k 0))
    where
      fits : {z : ℤ} → Within 1023 z → SFits w16 z
      fits {z} = simp ints (omega arith)
