-- Products of f32: one with the opposite factor is the opposite; one of finite factors is no NaN; and one of factors of at most b and c in size is at most b·c,
-- where that is a number that f32 holds.
-- Assumes nothing.
use Rattle.std.specs.Prelude.{◌≡◌, Bool, not, ◌&&◌, ◌||◌, T, eqb, ltb, Float}
use Rattle.std.proofs.Math.Path.{refl}
use Rattle.std.proofs.Common.{sym, ap, ◌∙◌, le_trans, le_of_eq, lt_of_lt_of_le, mul_assoc, mul-one, mul-pos, mul_right_comm, mul-le-mul, le_of_mul-le-mul_right, arith, eqb→eq, ltb→lt, lit<, pow-add, pow_mono, shl_lt}
use Rattle.std.proofs.Math.Bool.{true, false, cond}
use Rattle.std.proofs.lemmas.Bool.{false≢true}
use Prim.Native.Nat.{ℕ, zero, suc, ◌+◌, ◌*◌, ◌^◌, ◌≤◌, ◌<◌}
use Rattle.std.proofs.Math.Nat.{mul-mul-mul_comm}
use Rattle.std.specs.Float.{nan, inf, fin, Format, binary32}
use Rattle.std.specs.Float.Ieee.{prec, emax, low, unlike, up, down, odd, units, round, neg, mul, le, is_nan}
use Rattle.std.specs.Float.Ieee.Exact.{HasValue, round_exact}
use Rattle.std.specs.Float.Ieee.Fits.{down_pos}
use Rattle.std.specs.Float.Ieee.Order.{round_mono}
use Rattle.std.specs.Float.Ieee.Positive.{num, den, den_pos}
use Rattle.std.specs.Float.Ieee.Scale.{finite}
use Rattle.samples.specs.Samples.{◌*ᶠ◌}

-- ---- what is rounded has the sign that it is given, and is no NaN

module _ (f : Format) where
  odd_opposite : (s : Bool) (d q k l : ℕ) → odd d (not s) q k l ≡ neg (odd d s q k l)
  unfolding odd neg
  odd_opposite s d zero k l = refl
  odd_opposite s d (suc q) k l = refl

  units_opposite : (s : Bool) (q k : ℕ) → units f (not s) q k ≡ neg (units f s q k)
  unfolding units neg
  units_opposite s q k = go (ltb (q * 2 ^ k) (2 ^ (low f + suc (emax f))))
    where
      go : (b : Bool) → cond b (odd (suc (prec f)) (not s) q k (low f)) (inf (not s)) ≡ neg (cond b (odd (suc (prec f)) s q k (low f)) (inf s))
      go true = odd_opposite s (suc (prec f)) q k (low f)
      go false = refl

  round_opposite : (s : Bool) (a b : ℕ) → round f (not s) a b ≡ neg (round f s a b)
  unfolding round
  round_opposite s a b = units_opposite s _ _

-- a number whose sign is s
abbrev signed_by : Bool → Float → Type 0
signed_by s nan = ⊥
signed_by s (inf t) = t ≡ s
signed_by s (fin t m e) = t ≡ s

module _ (f : Format) (s : Bool) where
  odd_signed : (d q k l : ℕ) → signed_by s (odd d s q k l)
  unfolding odd
  odd_signed d zero k l = refl
  odd_signed d (suc q) k l = refl

  units_signed : (q k : ℕ) → signed_by s (units f s q k)
  unfolding units
  units_signed q k = go (ltb (q * 2 ^ k) (2 ^ (low f + suc (emax f))))
    where
      go : (b : Bool) → signed_by s (cond b (odd (suc (prec f)) s q k (low f)) (inf s))
      go true = odd_signed (suc (prec f)) q k (low f)
      go false = refl

  round_signed : (a b : ℕ) → signed_by s (round f s a b)
  unfolding round
  round_signed a b = units_signed _ _

signed_number : (s : Bool) (x : Float) → signed_by s x → is_nan x ≡ false
unfolding is_nan
signed_number s nan h = absurd h
signed_number s (inf t) h = refl
signed_number s (fin t m e) h = refl

-- ---- the opposite

pub finite_opposite : (x : Float) → finite (neg x) ≡ finite x
unfolding neg
finite_opposite nan = refl
finite_opposite (inf s) = refl
finite_opposite (fin s m e) = refl

unlike_opposite : (s t : Bool) → unlike s (not t) ≡ not (unlike s t)
unlike_opposite true true = refl
unlike_opposite true false = refl
unlike_opposite false true = refl
unlike_opposite false false = refl

pub product_opposite : (x y : Float) → x *ᶠ neg y ≡ neg (x *ᶠ y)
unfolding mul neg
product_opposite nan y = refl
product_opposite (inf s) nan = refl
product_opposite (inf s) (inf t) = ap inf (unlike_opposite s t)
product_opposite (inf s) (fin t n d) = go (eqb n 0)
  where
    go : (b : Bool) → cond b nan (inf (unlike s (not t))) ≡ neg (cond b nan (inf (unlike s t)))
    go true = refl
    go false = ap inf (unlike_opposite s t)
product_opposite (fin s m e) nan = refl
product_opposite (fin s m e) (inf t) = go (eqb m 0)
  where
    go : (b : Bool) → cond b nan (inf (unlike s (not t))) ≡ neg (cond b nan (inf (unlike s t)))
    go true = refl
    go false = ap inf (unlike_opposite s t)
product_opposite (fin s m e) (fin t n d) = rw (unlike_opposite s t) (round_opposite binary32 (unlike s t) (m * up e * (n * up d)) (down e * down d))

-- ---- no NaN

pub product_number : (x y : Float) → finite x ≡ true → finite y ≡ true → is_nan (x *ᶠ y) ≡ false
unfolding mul
product_number nan y p q = absurd (false≢true p)
product_number (inf s) y p q = absurd (false≢true p)
product_number (fin s m e) nan p q = absurd (false≢true q)
product_number (fin s m e) (inf t) p q = absurd (false≢true q)
product_number (fin s m e) (fin t n d) p q =
    signed_number (unlike s t) _ (round_signed binary32 (unlike s t) (m * up e * (n * up d)) (down e * down d))

-- ---- sizes

-- finite, and at most b in size
pub record AtMost (b : ℕ) (x : Float) : Type 0 where
  pub finite_is : finite x ≡ true
  pub small : num x ≤ b * den x

-- every finite number is at most its numerator
pub at_most_own : (x : Float) → finite x ≡ true → AtMost (num x) x
at_most_own x h = record { finite_is = h; small = le_trans (le_of_eq (sym (mul-one (num x)))) (mul-le-mul {m₂ = den x} (le_of_eq refl) (den_pos x)) }

at_most_opposite : (b : ℕ) (x : Float) → AtMost b x → AtMost b (neg x)
unfolding neg
at_most_opposite b nan h = record { finite_is = h.finite_is; small = h.small }
at_most_opposite b (inf s) h = record { finite_is = h.finite_is; small = h.small }
at_most_opposite b (fin s m e) h = record { finite_is = refl; small = h.small }

-- what `le` tests of two numbers without a sign
le_sizes : (a b : ℕ) → T (ltb a b || (eqb a b && true)) → a ≤ b
le_sizes a b = go (ltb a b) (eqb a b) (ltb→lt a b) (eqb→eq a b)
  where
    go : (l e : Bool) → (T l → a < b) → (T e → a ≡ b) → T (l || (e && true)) → a ≤ b
    go true e p q t = let h = p tt in omega arith
    go false true p q t = le_of_eq (q tt)
    go false false p q t = absurd t

-- a number that is not negative, and no larger than one of size b
pub at_most_below : (x y : Float) (b : ℕ) → signed_by false x → HasValue y false b 1 → T (le x y) → AtMost b x
unfolding le
at_most_below nan y b s v h = absurd s
at_most_below (inf true) y b s v h = absurd (false≢true (sym s))
at_most_below (inf false) nan b s v h = absurd v
at_most_below (inf false) (inf t) b s v h = absurd v
at_most_below (inf false) (fin t n d) b s v h = absurd h
at_most_below (fin true m e) y b s v h = absurd (false≢true (sym s))
at_most_below (fin false m e) nan b s v h = absurd v
at_most_below (fin false m e) (inf t) b s v h = absurd v
at_most_below (fin false m e) (fin true n d) b s v h = absurd (false≢true (sym v.0))
at_most_below (fin false m e) (fin false n d) b s v h = record {
  finite_is = refl;
  small =
      let l : m * up e * down d ≤ n * up d * down e = le_sizes _ _ h in
      let is : n * up d ≡ b * down d = sym (mul-one (n * up d)) ∙ v.1 in
      le_of_mul-le-mul_right (le_trans l (le_of_eq (ap (λ (z : ℕ). z * down e) is ∙ mul_right_comm b (down d) (down e)))) (down_pos d);
}

-- a fraction of at most b, rounded, is at most b, where b is a number that f32 holds
module _ (a c b q j : ℕ) (some : 0 < c) (least : a ≤ b * c) (held : b ≡ q * 2 ^ j) (digits : q < 2 ^ 24) (low-enough : j ≤ 100) where
  -- b in units of the smallest float
  in_units : b * 2 ^ 149 ≡ q * 2 ^ (j + 149) * 1
  in_units =
      ap (λ (z : ℕ). z * 2 ^ 149) held
      ∙ mul_assoc q (2 ^ j) (2 ^ 149)
      ∙ ap (λ (z : ℕ). q * z) (sym (pow-add 2 j 149))
      ∙ sym (mul-one (q * 2 ^ (j + 149)))

  held_exactly : HasValue (round binary32 false b 1) false b 1
  held_exactly =
      let room : 24 + (j + 149) ≤ 277 = omega arith in
      let fine : q * 2 ^ (j + 149) < 2 ^ 277 = lt_of_lt_of_le (shl_lt 24 (j + 149) digits) (pow_mono room) in
      round_exact binary32 false b 1 q (j + 149) (lit< tt) digits fine in_units

  pub upright_at_most : AtMost b (round binary32 false a c)
  upright_at_most =
      at_most_below _ _ b (round_signed binary32 false a c) held_exactly
      (round_mono binary32 a c b 1 some (lit< tt) (le_trans (le_of_eq (mul-one a)) least))

  round_at_most : (s : Bool) → AtMost b (round binary32 s a c)
  round_at_most false = upright_at_most
  round_at_most true = rw (round_opposite binary32 false a c) (at_most_opposite b _ upright_at_most)

pub product_at_most :
    (x y : Float) {b c : ℕ} (q j : ℕ) → AtMost b x → AtMost c y → b * c ≡ q * 2 ^ j → q < 2 ^ 24 → j ≤ 100 → AtMost (b * c) (x *ᶠ y)
unfolding mul
product_at_most nan y q j p r held digits l = absurd (false≢true p.finite_is)
product_at_most (inf s) y q j p r held digits l = absurd (false≢true p.finite_is)
product_at_most (fin s m e) nan q j p r held digits l = absurd (false≢true r.finite_is)
product_at_most (fin s m e) (inf t) q j p r held digits l = absurd (false≢true r.finite_is)
product_at_most (fin s m e) (fin t n d) {b} {c} q j p r held digits l =
    round_at_most _ _ (b * c) q j (mul-pos (down_pos e) (down_pos d))
    (le_trans (mul-le-mul p.small r.small) (le_of_eq (mul-mul-mul_comm b (down e) c (down d)))) held digits l (unlike s t)
