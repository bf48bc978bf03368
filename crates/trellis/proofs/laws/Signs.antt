-- Laws of `signed`, the value that counts for 1 and against 0: its parity, its size, and what a value that has its bit's sign tells.
-- Assumes nothing.
use Rattle.std.specs.Prelude.{◌≡◌, refl, ◌≢◌, ℕ, zero, suc, ◌<◌, ℤ, pos, neg_ℤ, nat_abs, ◌+ℤ◌, ◌-ℤ◌, ◌≤ℤ◌}
use Rattle.std.proofs.Common.{arith}
use Rattle.integers.specs.laws.Bounds.{Within, parity}
use Rattle.integers.specs.laws.Linear.{ints}
use Rattle.integers.specs.laws.Laws.{parity_neg, within_neg}
use Rattle.trellis.specs.Path.{signed}

pub signed_parity : (b : ℕ) (x : ℤ) → parity (signed b x) ≡ parity x
unfolding signed
signed_parity zero x = parity_neg x
signed_parity (suc b) x = refl

pub signed_within : (b : ℕ) {m : ℕ} {x : ℤ} → Within m x → Within m (signed b x)
unfolding signed
signed_within zero h = within_neg h
signed_within (suc b) h = h

pub signed_sum : (b : ℕ) (x y : ℤ) → signed b (x +ℤ y) ≡ signed b x +ℤ signed b y
unfolding signed
signed_sum zero x y = simp ints (omega arith)
signed_sum (suc b) x y = refl

pub signed_zero : (b : ℕ) → signed b (pos 0) ≡ pos 0
unfolding signed
signed_zero zero = refl
signed_zero (suc b) = refl

-- what is left of the more when the less is taken off
pub signed_rest : (b : ℕ) (x y : ℤ) → signed b x ≤ℤ signed b y → pos 0 ≤ℤ signed b (y -ℤ x)
unfolding signed
signed_rest zero x y = simp ints (omega arith)
signed_rest (suc b) x y = simp ints (omega arith)

-- a value that has its bit's sign counts with its size
pub signed_size : (b : ℕ) (x : ℤ) → pos 0 ≤ℤ signed b x → signed b x ≡ pos (nat_abs x)
unfolding signed
signed_size zero x = simp ints (omega arith)
signed_size (suc b) x = simp ints (omega arith)

-- and no bit makes it count more
pub signed_most : (b c : ℕ) (x : ℤ) → pos 0 ≤ℤ signed b x → signed c x ≤ℤ signed b x
unfolding signed
signed_most zero zero x = simp ints (omega arith)
signed_most zero (suc c) x = simp ints (omega arith)
signed_most (suc b) zero x = simp ints (omega arith)
signed_most (suc b) (suc c) x = simp ints (omega arith)

-- the other bit counts it the other way
pub signed_other : (b c : ℕ) (x : ℤ) → b < 2 → c < 2 → b ≢ c → signed c x ≡ neg_ℤ (signed b x)
unfolding signed
signed_other zero zero x h k n = absurd (n refl)
signed_other zero (suc zero) x h k n = simp ints (omega arith)
signed_other zero (suc (suc c)) x h k n = absurd (omega arith)
signed_other (suc zero) zero x h k n = refl
signed_other (suc zero) (suc zero) x h k n = absurd (n refl)
signed_other (suc zero) (suc (suc c)) x h k n = absurd (omega arith)
signed_other (suc (suc b)) c x h k n = absurd (omega arith)
