-- Linear arithmetic over the integers, by way of the natural numbers. `simp ints (omega arith)` proves an order, an equation, a range, a bound or
-- a test's outcome, of sums, differences, negations, maxima, minima, limits, multiples, quotients and halves; hypotheses stay in the goal as arrows.
-- How: a relation puts a mark on its sides, and the mark moves inward to the leaves. A marked leaf becomes the difference of its two parts, and each
-- operation on differences is a difference again, so that what is left speaks of natural numbers. A set is read in its order: `leaf` stands last,
-- since it would fit a sum too.
-- Assumes nothing.
use Rattle.std.specs.Prelude.{◌≡◌, ◌↔◌, true, false, ℕ, ◌+◌, ◌-◌, ◌%◌, ◌^◌, ◌≤◌, ◌<◌, ℤ, pos, negsuc, neg_ℤ, ◌+ℤ◌, ◌*ℤ◌, nat_abs, ◌≤ℤ◌, ◌<ℤ◌}
use Rattle.std.proofs.Math.Path.{refl}
use Rattle.std.proofs.Common.{sym, ap, ◌∙◌, to_z-of_z}
use Rattle.std.proofs.Math.Logic.Iff
use native.Mathlib.Omega.{arith}
use Rattle.std.proofs.Math.IntN.{sub_ℕ}
use Rattle.std.specs.Int.Signed.{mag, lt_z, le_z, quot_z}
use Rattle.std.specs.Int.{Width, w16, w32}
use mir.Val.{SFits, hbits, to_z, of_z}
use Rattle.std.proofs.Math.Facts.{sfits_widen}
use Rattle.integers.specs.Integers.{max_ℤ, min_ℤ, inside, limited, half}
use Rattle.integers.specs.laws.Bounds.{Within, parity}
use Rattle.integers.specs.laws.Parts.{above, below, abs_parts, lt_test, le_test, inside_test}
use Rattle.integers.specs.laws.Parts.{lt_parts, parts_lt, le_parts, parts_le, eq_parts, parts_eq}
use Rattle.integers.specs.laws.Difference.{diff, diff_parts, above_diff, below_diff, as_diff}
use Rattle.integers.specs.laws.Difference.{add_diff, neg_diff, max_diff, min_diff, mul_diff, quot_diff}

-- ---- marks: each is what it marks, shut, so that no rule fits it twice

unfoldable pub mark : ℤ → ℤ
mark z = z

pub Le : ℤ → ℤ → Type 0
Le a b = a ≤ℤ b

pub Lt : ℤ → ℤ → Type 0
Lt a b = a <ℤ b

pub Eq : ℤ → ℤ → Type 0
Eq a b = a ≡ b

pub Fits : Width → ℤ → Type 0
Fits w z = SFits w z

pub In : ℕ → ℤ → Type 0
In b z = Within b z

pub Out : ℕ → ℤ → Type 0
Out b z = b < nat_abs z

pub size : ℤ → ℕ
size z = nat_abs z

pub odd : ℤ → ℕ
odd z = parity z

-- ---- inward

module _ (a b : ℤ) where
  pub le_mark : (a ≤ℤ b) ↔ Le (mark a) (mark b)
  unfolding mark Le
  le_mark = Iff.rfl

  pub lt_mark : (a <ℤ b) ↔ Lt (mark a) (mark b)
  unfolding mark Lt
  lt_mark = Iff.rfl

  pub eq_mark : (a ≡ b) ↔ Eq (mark a) (mark b)
  unfolding mark Eq
  eq_mark = Iff.rfl

  pub lt_true : (lt_z a b ≡ true) ↔ Lt (mark a) (mark b)
  unfolding mark Lt
  lt_true = ((λ e. parts_lt a b ((lt_test a b).passed.0 e)), (λ h. (lt_test a b).passed.1 (lt_parts a b h)))

  pub lt_false : (lt_z a b ≡ false) ↔ Le (mark b) (mark a)
  unfolding mark Le
  lt_false = ((λ e. parts_le b a ((lt_test a b).failed.0 e)), (λ h. (lt_test a b).failed.1 (le_parts b a h)))

  pub le_true : (le_z a b ≡ true) ↔ Le (mark a) (mark b)
  unfolding mark Le
  le_true = ((λ e. parts_le a b ((le_test a b).passed.0 e)), (λ h. (le_test a b).passed.1 (le_parts a b h)))

  pub le_false : (le_z a b ≡ false) ↔ Lt (mark b) (mark a)
  unfolding mark Lt
  le_false = ((λ e. parts_lt b a ((le_test a b).failed.0 e)), (λ h. (le_test a b).failed.1 (lt_parts b a h)))

  pub add_mark : mark (a +ℤ b) ≡ mark a +ℤ mark b
  unfolding mark
  add_mark = refl

  pub max_mark : mark (max_ℤ a b) ≡ max_ℤ (mark a) (mark b)
  unfolding mark
  max_mark = refl

  pub min_mark : mark (min_ℤ a b) ≡ min_ℤ (mark a) (mark b)
  unfolding mark
  min_mark = refl

module _ (a : ℤ) where
  pub neg_mark : mark (neg_ℤ a) ≡ neg_ℤ (mark a)
  unfolding mark
  neg_mark = refl

  pub half_mark : mark (half a) ≡ quot_z (mark a) (pos 2)
  unfolding mark half
  half_mark = refl

  pub abs_mark : nat_abs a ≡ size (mark a)
  unfolding mark size
  abs_mark = refl

  pub parity_mark : parity a ≡ odd (mark a)
  unfolding mark odd
  parity_mark = refl

  pub fits_mark : (w : Width) → SFits w a ↔ Fits w (mark a)
  unfolding mark Fits
  fits_mark w = Iff.rfl

  -- a leaf
  pub leaf : mark a ≡ diff (above a) (below a)
  unfolding mark
  leaf = as_diff a

module _ (k : ℕ) (a : ℤ) where
  pub in_mark : Within k a ↔ In k (mark a)
  unfolding mark In
  in_mark = Iff.rfl

  pub inside_true : (inside k a ≡ true) ↔ In k (mark a)
  unfolding mark In
  inside_true = (
    (λ e. record { within = omega (arith, abs_parts a, (inside_test k a).passed.0 e) }),
    (λ h. (inside_test k a).passed.1 (omega (arith, abs_parts a))),
  )

  pub inside_false : (inside k a ≡ false) ↔ Out k (mark a)
  unfolding mark Out
  inside_false = (
    (λ e. omega (arith, abs_parts a, (inside_test k a).failed.0 e)),
    (λ h. (inside_test k a).failed.1 (omega (arith, abs_parts a))),
  )

  pub limited_mark : mark (limited k a) ≡ max_ℤ (neg_ℤ (mark (pos k))) (min_ℤ (mark a) (mark (pos k)))
  unfolding mark limited
  limited_mark = refl

  pub mul_mark : mark (pos k *ℤ a) ≡ pos k *ℤ mark a
  unfolding mark
  mul_mark = refl

  pub quot_mark : mark (quot_z a (pos k)) ≡ quot_z (mark a) (pos k)
  unfolding mark
  quot_mark = refl

-- a sum of two integers whose signs are known has computed to this
pub sub_mark : (a b : ℕ) → mark (sub_ℕ a b) ≡ diff a b
unfolding mark diff
sub_mark a b = refl

-- ---- outward: the relations of differences

module _ (p n : ℕ) where
  pub size_diff : size (diff p n) ≡ (p - n) + (n - p)
  unfolding size
  size_diff = omega (arith, abs_parts (diff p n), above_diff p n, below_diff p n)

  pub odd_diff : odd (diff p n) ≡ (p + n) % 2
  unfolding odd parity size
  odd_diff = omega (arith, size_diff)

  pub in_diff : (b : ℕ) → In b (diff p n) ↔ ((p ≤ b + n) × (n ≤ b + p))
  unfolding In size
  in_diff b = omega (arith, size_diff)

  pub out_diff : (b : ℕ) → Out b (diff p n) ↔ (b < (p - n) + (n - p))
  unfolding Out size
  out_diff b = omega (arith, size_diff)

  pub fits_diff : (w : Width) → Fits w (diff p n) ↔ ((p < 2 ^ hbits w + n) × (n ≤ 2 ^ hbits w + p))
  unfolding Fits
  fits_diff w = ((λ h. omega (arith, diff_parts p n, of_fits (diff p n) h)), (λ h. to_fits (diff p n) (omega (arith, diff_parts p n))))
    where
      of_fits : (z : ℤ) → SFits w z → (above z < 2 ^ hbits w + below z) × (below z ≤ 2 ^ hbits w + above z)
      of_fits (pos a) h = omega arith
      of_fits (negsuc a) h = omega arith

      to_fits : (z : ℤ) → (above z < 2 ^ hbits w + below z) × (below z ≤ 2 ^ hbits w + above z) → SFits w z
      to_fits (pos a) h = omega arith
      to_fits (negsuc a) h = omega arith

module _ (p n q m : ℕ) where
  pub le_diff : Le (diff p n) (diff q m) ↔ (p + m ≤ q + n)
  unfolding Le
  le_diff = omega (arith, le_parts, parts_le, diff_parts p n, diff_parts q m)

  pub lt_diff : Lt (diff p n) (diff q m) ↔ (p + m < q + n)
  unfolding Lt
  lt_diff = omega (arith, lt_parts, parts_lt, diff_parts p n, diff_parts q m)

  pub eq_diff : Eq (diff p n) (diff q m) ↔ (p + m ≡ q + n)
  unfolding Eq
  eq_diff = omega (arith, eq_parts, parts_eq, diff_parts p n, diff_parts q m)

pub ruleset inward = (
  le_mark,
  lt_mark,
  eq_mark,
  lt_true,
  lt_false,
  le_true,
  le_false,
  fits_mark,
  in_mark,
  inside_true,
  inside_false,
  abs_mark,
  parity_mark,
  add_mark,
  neg_mark,
  max_mark,
  min_mark,
  limited_mark,
  mul_mark,
  quot_mark,
  half_mark,
  sub_mark,
)

pub ruleset outward = (
  add_diff,
  neg_diff,
  max_diff,
  min_diff,
  mul_diff,
  quot_diff,
  size_diff,
  odd_diff,
  in_diff,
  out_diff,
  fits_diff,
  le_diff,
  lt_diff,
  eq_diff,
)

pub ruleset ints = (inward, outward, leaf)

-- ---- what is read back from a signed local

-- `to_z w (of_z w z)` taken off by rewriting, `simp plain`, where a variable in reach, as of a `let`, says that z fits
abbrev pub fits_of : {w : Width} {z : ℤ} → mag z < 2 ^ hbits w → SFits w z
fits_of h = record { sfits = h }

abbrev pub widen : {z : ℤ} → SFits w16 z → SFits w32 z
widen f = sfits_widen tt f

pub ruleset plain = (to_z-of_z, fits_of, widen)

-- a test of equality in the code tells of the bits
pub same_bits : {w : Width} {a b : ℤ} → SFits w a → SFits w b → of_z w a ≡ of_z w b → a ≡ b
same_bits {w} f g e = sym (to_z-of_z f) ∙ ap (to_z w) e ∙ to_z-of_z g

-- a 16-bit value that went through a 32-bit local
pub read_back : {z : ℤ} → SFits w16 z → to_z w32 (of_z w32 (to_z w16 (of_z w16 z))) ≡ z
read_back f = rw (to_z-of_z f) (to_z-of_z (widen f))
