-- Laws of order, maxima, bounds, parity, halves and limits of integers, by name. Each is linear.
-- Assumes nothing.
use Rattle.std.specs.Prelude.{◌≡◌, refl, ◌↔◌, ◌⊎◌, Bool, true, false, ℕ, ◌+◌, ◌*◌, ◌≤◌, ℤ, pos, neg_ℤ, ◌+ℤ◌, ◌-ℤ◌, ◌*ℤ◌, ◌≤ℤ◌, ◌<ℤ◌}
use Rattle.std.proofs.Common.{inl, inr, arith}
use Rattle.std.specs.Int.Signed.{le_z}
use Rattle.integers.specs.Integers.{max_ℤ, inside, limited, half}
use Rattle.integers.specs.laws.Bounds.{Within, parity}
use Rattle.integers.specs.laws.Linear.{ints}

-- ---- order

pub ≤ℤ_trans : {a b c : ℤ} → a ≤ℤ b → b ≤ℤ c → a ≤ℤ c
≤ℤ_trans {a} {b} {c} = simp ints (omega arith)

pub ≤ℤ_antisym : {a b : ℤ} → a ≤ℤ b → b ≤ℤ a → a ≡ b
≤ℤ_antisym {a} {b} = simp ints (omega arith)

pub <ℤ→≤ℤ : {a b : ℤ} → a <ℤ b → a ≤ℤ b
<ℤ→≤ℤ {a} {b} = simp ints (omega arith)

pub ≤ℤ_total : (a b : ℤ) → (a ≤ℤ b) ⊎ (b ≤ℤ a)
≤ℤ_total a b = go (le_z a b) (simp ints (omega arith)) (simp ints (omega arith))
  where
    go : (t : Bool) → (t ≡ true → a ≤ℤ b) → (t ≡ false → b ≤ℤ a) → (a ≤ℤ b) ⊎ (b ≤ℤ a)
    go true f g = inl (f refl)
    go false f g = inr (g refl)

pub +ℤ_mono : {a b c d : ℤ} → a ≤ℤ b → c ≤ℤ d → (a +ℤ c) ≤ℤ (b +ℤ d)
+ℤ_mono {a} {b} {c} {d} = simp ints (omega arith)

-- ---- the larger of two

pub max_ℤ_right : (a b : ℤ) → a ≤ℤ b → max_ℤ a b ≡ b
max_ℤ_right a b = simp ints (omega arith)

pub max_ℤ_left : (a b : ℤ) → b ≤ℤ a → max_ℤ a b ≡ a
max_ℤ_left a b = simp ints (omega arith)

pub +ℤ_max_ℤ : (a b c : ℤ) → c +ℤ max_ℤ a b ≡ max_ℤ (c +ℤ a) (c +ℤ b)
+ℤ_max_ℤ a b c = simp ints (omega arith)

-- ---- bounds

pub within_zero : (m : ℕ) → Within m (pos 0)
within_zero m = simp ints (omega arith)

pub within_more : {m n : ℕ} {a : ℤ} → m ≤ n → Within m a → Within n a
within_more {m} {n} {a} = simp ints (omega arith)

pub within_sum : {m n : ℕ} {a b : ℤ} → Within m a → Within n b → Within (m + n) (a +ℤ b)
within_sum {m} {n} {a} {b} = simp ints (omega arith)

pub within_neg : {m : ℕ} {a : ℤ} → Within m a → Within m (neg_ℤ a)
within_neg {m} {a} = simp ints (omega arith)

pub within_max : {m : ℕ} {a b : ℤ} → Within m a → Within m b → Within m (max_ℤ a b)
within_max {m} {a} {b} = simp ints (omega arith)

pub inside_is : (m : ℕ) (a : ℤ) → (inside m a ≡ true) ↔ Within m a
inside_is m a = simp ints (omega arith)

-- ---- parity and halves

pub parity_sum : (a b c d : ℤ) → parity a ≡ parity c → parity b ≡ parity d → parity (a +ℤ b) ≡ parity (c +ℤ d)
parity_sum a b c d = simp ints (omega arith)

pub parity_neg : (a : ℤ) → parity (neg_ℤ a) ≡ parity a
parity_neg a = simp ints (omega arith)

pub half_exact : (a b : ℤ) → parity a ≡ parity b → pos 2 *ℤ half (a -ℤ b) ≡ a -ℤ b
half_exact a b = simp ints (omega arith)

pub half_within : (m : ℕ) (a : ℤ) → Within (2 * m) a → Within m (half a)
half_within m a = simp ints (omega arith)

-- ---- limits

pub limited_within : (m : ℕ) (a : ℤ) → Within m (limited m a)
limited_within m a = simp ints (omega arith)

pub limited_inside : (m : ℕ) (a : ℤ) → Within m a → limited m a ≡ a
limited_inside m a = simp ints (omega arith)

pub limited_nonneg : (m : ℕ) (a : ℤ) → pos 0 ≤ℤ a → pos 0 ≤ℤ limited m a
limited_nonneg m a = simp ints (omega arith)

pub limited_nonpos : (m : ℕ) (a : ℤ) → a ≤ℤ pos 0 → limited m a ≤ℤ pos 0
limited_nonpos m a = simp ints (omega arith)
