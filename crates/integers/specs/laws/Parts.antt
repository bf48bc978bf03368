-- The two parts of an integer, how far it lies above 0 and how far below, and what orders, equations, tests and bounds say of them.
-- One of the parts is 0, and both are natural numbers, which `omega` reads.
-- Assumes nothing.
use Rattle.std.specs.Prelude.{◌≡◌, refl, ◌↔◌, Bool, true, false, ℕ, suc, ◌+◌, ◌≤◌, ◌<◌, min, T, ℤ, pos, negsuc, nat_abs, ◌≤ℤ◌, ◌<ℤ◌}
use Rattle.std.proofs.Common.{sym, ap, subst, arith, SFits, to_z, of_z, to_z-of_z}
use Rattle.std.specs.Int.Signed.{lt_z, le_z}
use borrow.Author.Tests.{ltb-true, ltb-false, leb-true, leb-false}
use Rattle.std.specs.Int.{Width}
use Rattle.integers.specs.laws.Bounds.{Within}
use Rattle.integers.specs.Integers.{inside}

abbrev pub above : ℤ → ℕ
above (pos n) = n
above (negsuc n) = 0

abbrev pub below : ℤ → ℕ
below (pos n) = 0
below (negsuc n) = suc n

pub one_part : (z : ℤ) → min (above z) (below z) ≡ 0
one_part (pos n) = omega arith
one_part (negsuc n) = omega arith

pub abs_parts : (z : ℤ) → nat_abs z ≡ above z + below z
abs_parts (pos n) = omega arith
abs_parts (negsuc n) = omega arith

-- ---- tests

never : true ≡ false → ⊥
never e = let z : ◌≡◌ {A = ℕ} 0 1 = cc in omega arith

-- a test that tells which of two statements holds, where they exclude each other
pub record Decides (t : Bool) (P Q : Type 0) : Type 0 where
  pub passed : (t ≡ true) ↔ P
  pub failed : (t ≡ false) ↔ Q

decides : {t : Bool} {P Q : Type 0} → (t ≡ true → P) → (t ≡ false → Q) → (P → Q → ⊥) → Decides t P Q
decides {t = true} f g apart = record { passed = (f, λ p. refl); failed = (g, λ q. absurd (apart (f refl) q)) }
decides {t = false} f g apart = record { passed = (f, λ p. absurd (apart p (g refl))); failed = (g, λ q. refl) }

-- a test as a type
holds : {t : Bool} → t ≡ true → T t
holds e = subst T (sym e) tt

is_true : {t : Bool} → T t → t ≡ true
is_true {t = true} h = refl
is_true {t = false} h = absurd h

-- ---- orders and equations of two integers

module _ (a b : ℤ) where
  abbrev pub Less : Type 0
  Less = above a + below b < above b + below a

  abbrev pub AtMost : Type 0
  AtMost = above a + below b ≤ above b + below a

pub lt_yes : (a b : ℤ) → lt_z a b ≡ true → Less a b
lt_yes (pos a) (pos b) e = omega (arith, ltb-true a b e)
lt_yes (pos a) (negsuc b) e = absurd (never (sym e))
lt_yes (negsuc a) (pos b) e = omega arith
lt_yes (negsuc a) (negsuc b) e = omega (arith, ltb-true b a e)

pub lt_no : (a b : ℤ) → lt_z a b ≡ false → AtMost b a
lt_no (pos a) (pos b) e = omega (arith, ltb-false a b e)
lt_no (pos a) (negsuc b) e = omega arith
lt_no (negsuc a) (pos b) e = absurd (never e)
lt_no (negsuc a) (negsuc b) e = omega (arith, ltb-false b a e)

pub le_yes : (a b : ℤ) → le_z a b ≡ true → AtMost a b
le_yes (pos a) (pos b) e = omega (arith, leb-true a b e)
le_yes (pos a) (negsuc b) e = absurd (never (sym e))
le_yes (negsuc a) (pos b) e = omega arith
le_yes (negsuc a) (negsuc b) e = omega (arith, leb-true b a e)

pub le_no : (a b : ℤ) → le_z a b ≡ false → Less b a
le_no (pos a) (pos b) e = omega (arith, leb-false a b e)
le_no (pos a) (negsuc b) e = omega arith
le_no (negsuc a) (pos b) e = absurd (never e)
le_no (negsuc a) (negsuc b) e = omega (arith, leb-false b a e)

pub eq_parts : (a b : ℤ) → a ≡ b → above a + below b ≡ above b + below a
eq_parts a b h = omega (arith, ap above h, ap below h)

pub parts_eq : (a b : ℤ) → above a + below b ≡ above b + below a → a ≡ b
parts_eq (pos a) (pos b) h = ap pos (omega arith)
parts_eq (pos a) (negsuc b) h = absurd (omega arith)
parts_eq (negsuc a) (pos b) h = absurd (omega arith)
parts_eq (negsuc a) (negsuc b) h = ap negsuc (omega arith)

module _ (a b : ℤ) where
  pub lt_test : Decides (lt_z a b) (Less a b) (AtMost b a)
  lt_test = decides (lt_yes a b) (lt_no a b) (λ h k. omega arith)

  pub le_test : Decides (le_z a b) (AtMost a b) (Less b a)
  le_test = decides (le_yes a b) (le_no a b) (λ h k. omega arith)

  pub lt_parts : a <ℤ b → Less a b
  lt_parts h = lt_yes a b (is_true h.lt)

  pub parts_lt : Less a b → a <ℤ b
  parts_lt h = record { lt = holds (lt_test.passed.1 h) }

  pub le_parts : a ≤ℤ b → AtMost a b
  le_parts h = le_yes a b (is_true h.le)

  pub parts_le : AtMost a b → a ≤ℤ b
  parts_le h = record { le = holds (le_test.passed.1 h) }

-- ---- bounds

module _ (b : ℕ) (z : ℤ) where
  pub within_parts : Within b z → above z + below z ≤ b
  within_parts h = omega (arith, abs_parts z)

  pub inside_yes : inside b z ≡ true → above z + below z ≤ b
  unfolding inside
  inside_yes e = omega (arith, abs_parts z, leb-true (nat_abs z) b e)

  pub inside_no : inside b z ≡ false → b < above z + below z
  unfolding inside
  inside_no e = omega (arith, abs_parts z, leb-false (nat_abs z) b e)

  pub inside_test : Decides (inside b z) (above z + below z ≤ b) (b < above z + below z)
  inside_test = decides inside_yes inside_no (λ h k. omega arith)

-- a signed local holds bits: what is read back from it is `to_z w (of_z w z)`, which is z where z fits
pub read_back : (w : Width) (z : ℤ) → SFits w z → above (to_z w (of_z w z)) + below z ≡ above z + below (to_z w (of_z w z))
read_back w z f = eq_parts _ _ (to_z-of_z f)

-- what is known of integers in reach, as facts about their parts: `omega (arith, parts)`. A fact is read by the first rule that fits.
pub ruleset parts = (le_parts, lt_parts, eq_parts, lt_yes, lt_no, le_yes, le_no, within_parts, inside_yes, inside_no, read_back)
