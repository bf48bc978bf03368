-- An integer as the difference of two natural numbers, `diff p n`, and every operation on differences as a difference again.
-- Assumes nothing.
use Rattle.std.specs.Prelude.{◌≡◌, refl, Bool, true, false, cond, ℕ, zero, suc, ◌+◌, ◌-◌, ◌*◌, ◌/◌, max, min, ltb, ℤ, pos, negsuc, neg_ℤ, ◌+ℤ◌, ◌*ℤ◌}
use Rattle.std.proofs.Common.{sym, ap, ◌∙◌, arith, ltb-true, ltb-false}
use Rattle.std.proofs.Math.Nat.{zero-div}
use Rattle.std.proofs.Math.IntN.{sub_ℕ}
use Rattle.std.specs.Int.Signed.{lt_z, quot_z}
use Rattle.integers.specs.Integers.{max_ℤ, min_ℤ}
use Rattle.integers.specs.laws.Parts.{above, below, one_part, lt_yes, lt_no, parts_eq}

-- p - n
unfoldable pub diff : ℕ → ℕ → ℤ
diff p n = sub_ℕ p n

-- ---- the parts of a difference

pub diff_parts : (p n : ℕ) → above (diff p n) + n ≡ below (diff p n) + p
unfolding diff
diff_parts p n = go (ltb p n) refl
  where
    of : Bool → ℤ
    of t = cond t (negsuc (n - suc p)) (pos (p - n))

    go : (t : Bool) → ltb p n ≡ t → above (of t) + n ≡ below (of t) + p
    go true e = let h = ltb-true p n e in omega arith
    go false e = let h = ltb-false p n e in omega arith

pub above_diff : (p n : ℕ) → above (diff p n) ≡ p - n
above_diff p n = omega (arith, diff_parts p n, one_part (diff p n))

pub below_diff : (p n : ℕ) → below (diff p n) ≡ n - p
below_diff p n = omega (arith, diff_parts p n, one_part (diff p n))

-- an integer whose parts differ as p and n do
is_diff : (z : ℤ) (p n : ℕ) → above z + n ≡ below z + p → z ≡ diff p n
is_diff z p n h = parts_eq z (diff p n) (omega (arith, diff_parts p n))

pub as_diff : (z : ℤ) → z ≡ diff (above z) (below z)
as_diff z = is_diff z (above z) (below z) (omega arith)

-- ---- the operations, by the parts of their operands

above_neg : (a : ℤ) → above (neg_ℤ a) ≡ below a
above_neg (pos zero) = refl
above_neg (pos (suc n)) = refl
above_neg (negsuc n) = refl

below_neg : (a : ℤ) → below (neg_ℤ a) ≡ above a
below_neg (pos zero) = refl
below_neg (pos (suc n)) = refl
below_neg (negsuc n) = refl

add_parts : (a b : ℤ) → above (a +ℤ b) + (below a + below b) ≡ below (a +ℤ b) + (above a + above b)
unfolding diff
add_parts (pos a) (pos b) = omega arith
add_parts (pos a) (negsuc b) = omega (arith, diff_parts a (suc b))
add_parts (negsuc a) (pos b) = omega (arith, diff_parts b (suc a))
add_parts (negsuc a) (negsuc b) = omega arith

mul_parts : (k : ℕ) (a : ℤ) → (above (pos k *ℤ a) ≡ k * above a) × (below (pos k *ℤ a) ≡ k * below a)
mul_parts k (pos a) = (refl, omega arith)
mul_parts k (negsuc a) = (omega (arith, above_neg (pos (k * suc a))), below_neg (pos (k * suc a)))

quot_parts : (k : ℕ) (a : ℤ) → (above (quot_z a (pos k)) ≡ above a / k) × (below (quot_z a (pos k)) ≡ below a / k)
quot_parts k (pos a) = (refl, sym (zero-div k))
quot_parts k (negsuc a) = (above_neg (pos (suc a / k)) ∙ sym (zero-div k), below_neg (pos (suc a / k)))

-- what holds of both branches of a test holds of what the test picks
by_test : (t : Bool) (a b : ℤ) (Q : ℤ → Type 0) → (t ≡ true → Q a) → (t ≡ false → Q b) → Q (cond t a b)
by_test true a b Q f g = f refl
by_test false a b Q f g = g refl

max_parts : (a b : ℤ) → above (max_ℤ a b) + (below a + below b) ≡ below (max_ℤ a b) + max (above a + below b) (above b + below a)
unfolding max_ℤ
max_parts a b = by_test (lt_z a b) b a Is (λ e. omega (arith, lt_yes a b e)) (λ e. omega (arith, lt_no a b e))
  where
    Is : ℤ → Type 0
    Is z = above z + (below a + below b) ≡ below z + max (above a + below b) (above b + below a)

min_parts : (a b : ℤ) → above (min_ℤ a b) + (below a + below b) ≡ below (min_ℤ a b) + min (above a + below b) (above b + below a)
unfolding min_ℤ
min_parts a b = by_test (lt_z a b) a b Is (λ e. omega (arith, lt_yes a b e)) (λ e. omega (arith, lt_no a b e))
  where
    Is : ℤ → Type 0
    Is z = above z + (below a + below b) ≡ below z + min (above a + below b) (above b + below a)

-- ---- the operations on differences

module _ (p n : ℕ) where
  pub neg_diff : neg_ℤ (diff p n) ≡ diff n p
  neg_diff = is_diff _ n p (omega (arith, diff_parts p n, above_neg (diff p n), below_neg (diff p n)))

  pub mul_diff : (k : ℕ) → pos k *ℤ diff p n ≡ diff (k * p) (k * n)
  mul_diff k = is_diff _ (k * p) (k * n) (omega (arith, mul_parts k (diff p n), ap (λ (x : ℕ). k * x) (diff_parts p n)))

  pub quot_diff : (k : ℕ) → quot_z (diff p n) (pos k) ≡ diff ((p - n) / k) ((n - p) / k)
  quot_diff k =
      is_diff _ ((p - n) / k) ((n - p) / k)
      (omega (arith, quot_parts k (diff p n), ap (λ (x : ℕ). x / k) (above_diff p n), ap (λ (x : ℕ). x / k) (below_diff p n)))

module _ (p n q m : ℕ) where
  pub add_diff : diff p n +ℤ diff q m ≡ diff (p + q) (n + m)
  add_diff = is_diff _ (p + q) (n + m) (omega (arith, diff_parts p n, diff_parts q m, add_parts (diff p n) (diff q m)))

  pub max_diff : max_ℤ (diff p n) (diff q m) ≡ diff (max (p + m) (q + n)) (n + m)
  max_diff = is_diff _ (max (p + m) (q + n)) (n + m) (omega (arith, diff_parts p n, diff_parts q m, max_parts (diff p n) (diff q m)))

  pub min_diff : min_ℤ (diff p n) (diff q m) ≡ diff (min (p + m) (q + n)) (n + m)
  min_diff = is_diff _ (min (p + m) (q + n)) (n + m) (omega (arith, diff_parts p n, diff_parts q m, min_parts (diff p n) (diff q m)))
