-- The channel value of a float by its bits: its sign, its exponent's field and its digits' field; of the opposite float; and of 0.
-- Assumes nothing.
use Rattle.std.specs.Prelude.{◌≡◌, refl, Bool, true, false, not, cond, T, leb, eqb, ltb, Float, pos, neg_ℤ}
use Rattle.std.proofs.Common.{sym, ap, ap₂, ◌∙◌, mod-eq_of_lt, mul_assoc, mul-le-mul_right, mul-le-mul_left, le-div_iff_mul-le, one-mul, mul-one, lt_of_le_of_lt, lt_of_lt_of_le, le_trans, pow-suc, add-one, arith, leb→le, eqb→eq, lit<, lit≤, pow_pos, pow_mono, pow-add, shl_lt, shl_exact}
use Rattle.std.proofs.lemmas.Bool.{false≢true}
use Prim.Native.Nat.{ℕ, zero, suc, ◌+◌, ◌-◌, ◌*◌, ◌/◌, ◌%◌, ◌^◌, ◌≤◌, ◌<◌, min, compare, Ordering}
use Rattle.std.proofs.Math.Decide.{dec_lt}
use Rattle.std.proofs.Math.Nat.{div-eq_of_lt}
use borrow.Author.Tests.{lt-ltb, le-ltb}
use Rattle.std.proofs.Math.Dec.{is_le, compare_is_eq, nleb→lt, eqb_refl}
use Rattle.std.specs.Float.{nan, inf, fin, binary32}
use Rattle.std.specs.Float.Ieee.{up, down, nearest, odd, neg, of_fields, of_bits, is_nan}
use Rattle.std.specs.Float.Ieee.Exact.{HasValue, odd_sign}
use Rattle.std.specs.Float.Ieee.Fits.{down_pos}
use Rattle.std.specs.Float.Ieee.Nearest.{closest, closest_same, nearest-ge}
use Rattle.integers.specs.Integers.{limited}
use Rattle.integers.specs.laws.Linear.{ints}
use Rattle.trellis.specs.Limits.{channel_limit}
use Rattle.samples.specs.Samples.{with_sign, nearest_value}
use Rattle.samples.specs.laws.Products.{AtMost}

-- ---- how `closest` rounds a / b, by twice the remainder

compare_below : (a b : ℕ) → a < b → compare a b ≡ Ordering.lt
compare_below a b h = go (compare a b) (nleb→lt a b) (eqb→eq a b)
  where
    go : (o : Ordering) → (T (not (is_le o)) → b < a) → (T (compare_is_eq o) → a ≡ b) → o ≡ Ordering.lt
    go Ordering.lt k e = refl
    go Ordering.eq k e = absurd (let q = e tt in omega arith)
    go Ordering.gt k e = absurd (let q = k tt in omega arith)

compare_above : (a b : ℕ) → b < a → compare a b ≡ Ordering.gt
compare_above a b h = go (compare a b) (leb→le a b)
  where
    go : (o : Ordering) → (T (is_le o) → a ≤ b) → o ≡ Ordering.gt
    go Ordering.lt k = absurd (let q = k tt in omega arith)
    go Ordering.eq k = absurd (let q = k tt in omega arith)
    go Ordering.gt k = refl

compare_same : (a : ℕ) → compare a a ≡ Ordering.eq
compare_same a = go (compare a a) (eqb_refl a)
  where
    go : (o : Ordering) → T (compare_is_eq o) → o ≡ Ordering.eq
    go Ordering.lt t = absurd t
    go Ordering.eq t = refl
    go Ordering.gt t = absurd t

module _ (a b : ℕ) where
  pub closest_down : a % b * 2 < b → a / b ≡ closest a b
  closest_down h = rw (compare_below (a % b * 2) b h)

  pub closest_up : b < a % b * 2 → a / b + 1 ≡ closest a b
  closest_up h = rw (compare_above (a % b * 2) b h) (add-one _)

  pub closest_even : a % b * 2 ≡ b → a / b + a / b % 2 ≡ closest a b
  closest_even e = sym (ap (λ (x : ℕ). nearest (a / b) (compare x b)) e ∙ rw (compare_same b))

  below_half : a * 2 < b → closest a b ≡ 0
  below_half h =
      let l : a < b = omega arith in
      let m : a % b * 2 < b = rw (mod-eq_of_lt l) h in
      sym (closest_down m) ∙ div-eq_of_lt l

-- what the nearest quotient goes by
pub ruleset halves_to_even = (closest_down, closest_up, closest_even)

-- ---- limits and signs

-- limited with its sign, or without it
pub limited_size : (s : Bool) (n : ℕ) → limited channel_limit (with_sign s n) ≡ with_sign s (min 1023 n)
limited_size true n = simp ints (omega arith)
limited_size false n = simp ints (omega arith)

limited_opposite : (s : Bool) (n : ℕ) → limited channel_limit (with_sign (not s) n) ≡ neg_ℤ (limited channel_limit (with_sign s n))
limited_opposite true n = simp ints (omega arith)
limited_opposite false n = simp ints (omega arith)

pub value_opposite : (x : Float) → nearest_value (neg x) ≡ neg_ℤ (nearest_value x)
unfolding nearest_value neg
value_opposite nan = refl
value_opposite (inf true) = refl
value_opposite (inf false) = refl
value_opposite (fin s m e) = limited_opposite s (closest (m * up e) (down e))

-- ---- the value of a number of size a / c

value_of_size : (x : Float) (s : Bool) (a c : ℕ) → 0 < c → HasValue x s a c → nearest_value x ≡ with_sign s (min 1023 (closest a c))
unfolding nearest_value
value_of_size nan s a c h p = absurd p
value_of_size (inf t) s a c h p = absurd p
value_of_size (fin t m e) s a c h p =
    limited_size t _ ∙ ap₂ (λ (u : Bool) (n : ℕ). with_sign u (min 1023 n)) p.0 (closest_same (m * up e) (down e) a c (down_pos e) h p.1)

none_of_zero : (s : Bool) → with_sign s 0 ≡ pos 0
none_of_zero true = refl
none_of_zero false = refl

pub value_of_zero : (x : Float) → AtMost 0 x → nearest_value x ≡ pos 0
unfolding nearest_value
value_of_zero nan h = refl
value_of_zero (inf s) h = absurd (false≢true h.finite_is)
value_of_zero (fin s m e) h =
    let some = down_pos e in
    let half : m * up e * 2 < down e = omega (arith, h.small) in
    limited_size s _ ∙ ap (λ (n : ℕ). with_sign s (min 1023 n)) (below_half _ _ half) ∙ none_of_zero s

-- ---- by the fields

-- the size by the exponent's field and the digits: a normal float is (2^23 + t)·2^(x - 1) of the smallest, and 2^149 of these are 1
unfoldable pub size_at : ℕ → ℕ → ℕ
size_at x t = cond (ltb x 126) 0 (cond (ltb 136 x) 1023 (min 1023 (closest (8388608 + t) (2 ^ (150 - x)))))

module _ {x : ℕ} (t : ℕ) where
  pub size_low : x < 126 → size_at x t ≡ 0
  unfolding size_at
  size_low h = rw (lt-ltb _ _ h)

  pub size_high : 136 < x → size_at x t ≡ 1023
  unfolding size_at
  size_high h = rw (le-ltb x 126 (omega arith), lt-ltb 136 x h)

  pub size_between : 126 ≤ x → x ≤ 136 → size_at x t ≡ min 1023 (closest (8388608 + t) (2 ^ (150 - x)))
  unfolding size_at
  size_between h k = rw (le-ltb x 126 h, le-ltb 136 x k)

-- the power, as a shift makes it
pub shifted : (x : ℕ) → 126 ≤ x → 1 * 2 ^ (150 - x) % 4294967296 ≡ 2 ^ (150 - x)
shifted x p = shl_exact 1 (150 - x) 32 (lit< tt) (omega arith) ∙ one-mul (2 ^ (150 - x))

pub power_small : (x : ℕ) → 126 ≤ x → 2 ^ (150 - x) < 33554432
power_small x p = lt_of_le_of_lt (pow_mono {i = 150 - x} {j = 24} (omega arith)) (lit< tt)

-- what the size by the fields goes by
pub ruleset sizes = (size_low, size_high, size_between, shifted, power_small)

-- arithmetic takes no number of more than 38 digits: these are said over a variable
doubled : (a k : ℕ) → a < 2 ^ k → a * 2 < 2 ^ suc k
doubled a k h = rw (pow-suc 2 k) (omega arith)

cut : (n : ℕ) → 1024 ≤ n → min 1023 n ≡ 1023
cut n h = omega arith

-- a normal float, by its field x + 1
module _ (x t : ℕ) where
  abbrev units_of : ℕ
  units_of = (8388608 + t) * 2 ^ x

  normal_low : t < 8388608 → suc x < 126 → closest units_of (2 ^ 149) ≡ 0
  normal_low h p =
      let q : units_of < 2 ^ (24 + x) = shl_lt 24 x (omega arith) in
      let r : 2 ^ (24 + x) ≤ 2 ^ 148 = pow_mono {i = 24 + x} {j = 148} (omega arith) in
      below_half units_of (2 ^ 149) (doubled units_of 148 (lt_of_lt_of_le q r))

  normal_high : 136 < suc x → min 1023 (closest units_of (2 ^ 149)) ≡ 1023
  normal_high p =
      let r : 2 ^ 136 ≤ 2 ^ x = pow_mono {i = 136} {j = x} (omega arith) in
      let q : 8388608 * 2 ^ x ≤ units_of = mul-le-mul_right (2 ^ x) (omega arith) in
      let b : 1024 * 2 ^ 149 ≤ units_of = le_trans (lit≤ {m = 1024 * 2 ^ 149} {n = 8388608 * 2 ^ 136} tt) (le_trans (mul-le-mul_left 8388608 r) q) in
      let d : 1024 ≤ units_of / 2 ^ 149 = (le-div_iff_mul-le {k = 2 ^ 149} {x = 1024} {y = units_of} (lit< tt)).1 b in
      let n : units_of / 2 ^ 149 ≤ closest units_of (2 ^ 149) = nearest-ge (units_of / 2 ^ 149) (compare (units_of % 2 ^ 149 * 2) (2 ^ 149)) in
      cut (closest units_of (2 ^ 149)) (le_trans d n)

  -- with the powers of two in both divided out
  reduced : suc x ≤ 136 → units_of * 2 ^ (150 - suc x) ≡ (8388608 + t) * 2 ^ 149
  reduced q =
      let k : x + (150 - suc x) ≡ 149 = omega arith in
      let s : 2 ^ x * 2 ^ (150 - suc x) ≡ 2 ^ 149 = sym (pow-add 2 x (150 - suc x)) ∙ ap (λ (k : ℕ). 2 ^ k) k in
      mul_assoc (8388608 + t) (2 ^ x) (2 ^ (150 - suc x)) ∙ ap (λ (k : ℕ). (8388608 + t) * k) s

  normal_between : suc x ≤ 136 → closest units_of (2 ^ 149) ≡ closest (8388608 + t) (2 ^ (150 - suc x))
  normal_between q = closest_same units_of (2 ^ 149) (8388608 + t) (2 ^ (150 - suc x)) (lit< tt) (pow_pos (150 - suc x)) (reduced q)

  normal_size : t < 8388608 → min 1023 (closest units_of (2 ^ 149)) ≡ size_at (suc x) t
  normal_size h = elim (dec_lt (suc x) 126) [
    | yes low ↦ ap (min 1023) (normal_low h low) ∙ sym (size_low t low)
    | no not_low ↦ elim (dec_lt 136 (suc x)) [
      | yes high ↦ normal_high high ∙ sym (size_high t high)
      | no not-high ↦ ap (min 1023) (normal_between (omega arith)) ∙ sym (size_between t (omega arith) (omega arith))
    ]
  ]

-- ---- by the bits

infinite : (s b : Bool) → is_nan (cond b (inf s) nan) ≡ false → nearest_value (cond b (inf s) nan) ≡ with_sign s 1023
unfolding nearest_value is_nan
infinite s true n = refl
infinite s false n = absurd (false≢true (sym n))

of_fields_lem : (s : Bool) (x t : ℕ) → t < 8388608 → is_nan (of_fields binary32 s x t) ≡ false → nearest_value (of_fields binary32 s x t) ≡ with_sign s (size_at x t)
unfolding of_fields
of_fields_lem s zero t h n =
    let small : t * 1 * 2 < 2 ^ 149 = doubled (t * 1) 148 (lt_of_lt_of_le (rw (mul-one t) h) (lit≤ {m = 8388608} {n = 2 ^ 148} tt)) in
    value_of_size (odd 24 s t 0 149) s (t * 1) (2 ^ 149) (lit< tt) (odd_sign 24 s t 0 149)
    ∙ ap (λ (k : ℕ). with_sign s (min 1023 k)) (below_half (t * 1) (2 ^ 149) small)
    ∙ ap (with_sign s) (sym (size_low {x = 0} t (lit< tt)))
of_fields_lem s (suc x) t h n = go (eqb (suc x) 255) (eqb→eq (suc x) 255) n
  where
    go : (b : Bool) → (T b → suc x ≡ 255) → is_nan (cond b (cond (eqb t 0) (inf s) nan) (odd 24 s (8388608 + t) x 149)) ≡ false
        → nearest_value (cond b (cond (eqb t 0) (inf s) nan) (odd 24 s (8388608 + t) x 149)) ≡ with_sign s (size_at (suc x) t)
    go true e n = let is = e tt in infinite s (eqb t 0) n ∙ ap (with_sign s) (sym (size_high {x = suc x} t (omega arith)))
    go false e n =
        value_of_size (odd 24 s (8388608 + t) x 149) s ((8388608 + t) * 2 ^ x) (2 ^ 149) (lit< tt) (odd_sign 24 s (8388608 + t) x 149)
        ∙ ap (with_sign s) (normal_size x t h)

pub of_bits_lem : (b : ℕ) → is_nan (of_bits binary32 b) ≡ false → nearest_value (of_bits binary32 b) ≡ with_sign (leb 2147483648 b) (size_at (b % 2147483648 / 8388608) (b % 8388608))
unfolding of_bits
of_bits_lem b n = of_fields_lem (leb 2147483648 b) (b % 2147483648 / 8388608) (b % 8388608) (omega arith) n
