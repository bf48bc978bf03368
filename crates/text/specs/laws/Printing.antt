-- Laws of printed numbers: the digits from the last on, whatever the fuel once it is enough, and how many there are.
-- Assumes nothing.
use Rattle.std.specs.Prelude.{◌≡◌, refl, true, false, ℤ, pos, negsuc, nat_abs, length}
use Rattle.std.proofs.Common.{sym, ap, ◌∙◌, arith, length-append, ltb-true, lt-ltb, le-ltb}
use Rattle.std.proofs.lemmas.Bool.{false≢true}
use mathlib.Core.List.{List, [], ◌∷◌, ◌++◌}
use Prim.Native.Nat.{ℕ, zero, suc, ◌+◌, ◌/◌, ◌%◌, ◌^◌, ◌≤◌, ◌<◌}
use Rattle.std.proofs.Math.Decide.{dec_lt}
use Rattle.std.specs.Int.Signed.{lt_z}
use Rattle.text.specs.Text.{minus}
use Rattle.text.specs.Decimal.{digits_in, digits, decimal}

-- ---- fuel

few : (f n : ℕ) → n < 10 → digits_in f n ≡ (48 + n) ∷ []
unfolding digits_in
few zero n h = ap (λ (k : ℕ). (48 + k) ∷ []) (omega arith)
few (suc f) n h = rw (lt-ltb n 10 h)

-- f is enough for f + 1 digits
fuels : (f g n : ℕ) → n < 10 ^ suc f → n < 10 ^ suc g → digits_in f n ≡ digits_in g n
unfolding digits_in
fuels zero g n p q = few zero n (omega arith) ∙ sym (few g n (omega arith))
fuels (suc f) zero n p q = few (suc f) n (omega arith) ∙ sym (few zero n (omega arith))
fuels (suc f) (suc g) n p q = rw (fuels f g (n / 10) (omega arith) (omega arith))

power : (n : ℕ) → n < 10 ^ suc n
power zero = omega arith
power (suc n) = omega (arith, power n)

pub digits_fuel : (f n : ℕ) → n < 10 ^ suc f → digits_in f n ≡ digits n
unfolding digits
digits_fuel f n h = fuels f n n h (power n)

-- ---- one digit, and more

pub digits_few : (n : ℕ) → n < 10 → digits n ≡ (48 + n) ∷ []
unfolding digits
digits_few n h = few n n h

pub digits_more : (n : ℕ) → 10 ≤ n → digits n ≡ digits (n / 10) ++ ((48 + n % 10) ∷ [])
digits_more zero h = absurd (omega arith)
digits_more (suc m) h =
    let front = digits_fuel m (suc m / 10) (omega (arith, power m)) in
    unfold digits digits_in in rw (le-ltb (suc m) 10 h) (ap (λ (l : List ℕ). l ++ ((48 + suc m % 10) ∷ [])) front)

-- ---- how many

pub one_digit : (n : ℕ) → n < 10 → length (digits n) ≡ 1
one_digit n h = ap length (digits_few n h)

pub one_more : (n : ℕ) → 10 ≤ n → length (digits n) ≡ length (digits (n / 10)) + 1
one_more n h = ap length (digits_more n h) ∙ length-append (digits (n / 10)) ((48 + n % 10) ∷ [])

pub digits_length : (k n : ℕ) → n < 10 ^ suc k → length (digits n) ≤ suc k
digits_length zero n h = omega (arith, one_digit n (omega arith))
digits_length (suc k) n h = elim (dec_lt n 10) [
  | yes l ↦ omega (arith, one_digit n l)
  | no l ↦ omega (arith, one_more n (omega arith), digits_length k (n / 10) (omega arith))
]

-- a 32-bit number has at most ten
pub ten_digits : (n : ℕ) → n < 4294967296 → length (digits n) ≤ 10
ten_digits n h = digits_length 9 n (omega arith)

-- ---- the sign, as code tests it

pub decimal_minus : (z : ℤ) → lt_z z (pos 0) ≡ true → decimal z ≡ minus ∷ digits (nat_abs z)
unfolding decimal
decimal_minus (pos n) e = absurd (let never : n < 0 = ltb-true n 0 e in omega arith)
decimal_minus (negsuc n) e = refl

pub decimal_plain : (z : ℤ) → lt_z z (pos 0) ≡ false → decimal z ≡ digits (nat_abs z)
unfolding decimal
decimal_plain (pos n) e = refl
decimal_plain (negsuc n) e = absurd (false≢true (sym e))
