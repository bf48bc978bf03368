-- The numbers that stand for ends, as the code tells them apart.
-- Assumes nothing.
use Rattle.capi.specs.laws.Returning.{written_done, written_refused}
use Rattle.std.specs.Prelude.{◌≡◌, refl, ℕ, zero, suc, ◌≤◌, Some, None}
use Rattle.std.proofs.Common.{arith}
use Rattle.trellis.specs.declared.End.TheVariants.{Zero, Open, Ring}
use Rattle.capi.specs.Returned.{end_of}

pub zero_end : (n : ℕ) → n ≡ 0 → end_of n ≡ Some Zero
unfolding end_of
zero_end n e = rw e refl

pub open_end : (n : ℕ) → n ≡ 1 → end_of n ≡ Some Open
unfolding end_of
open_end n e = rw e refl

pub ring_end : (n : ℕ) → n ≡ 2 → end_of n ≡ Some Ring
unfolding end_of
ring_end n e = rw e refl

pub no_end : (n : ℕ) → 3 ≤ n → end_of n ≡ None
unfolding end_of
no_end zero h = absurd (omega arith)
no_end (suc zero) h = absurd (omega arith)
no_end (suc (suc zero)) h = absurd (omega arith)
no_end (suc (suc (suc n))) h = refl

pub ruleset ends = (zero_end, open_end, ring_end, no_end)

-- entries written to a list, or refused
pub ruleset writing = (written_done, written_refused)
