-- Laws of numbers in text: a numeral's digits, the number that they write so far, and how large what is accepted can be.
-- Assumes nothing.
use Rattle.std.proofs.Math.Path.{◌≡◌, refl}
use Rattle.std.proofs.Common.{ap, add-one, arith, lit<, take-suc, to_z-of_z, SFits, to_z}
use Rattle.std.specs.Prelude.{Bool, true, false, cond, ◌&&◌, not, ℕ, zero, suc, ◌+◌, ◌-◌, ◌*◌, ◌^◌, ◌≤◌, ◌<◌, eqb, leb, ℤ, pos, ◌-ℤ◌, length, get_or, take}
use mathlib.Core.List.{List, [], ◌∷◌, foldl-append, tail}
use Rattle.std.proofs.Math.Option.{Option, none, some, map, bind}
use Rattle.std.proofs.Math.Nat.{pow-le-pow_right}
use Rattle.std.proofs.Math.IntN.{negsuc}
use Rattle.std.proofs.Math.ListN.{drop}
use Rattle.std.proofs.Math.Seq.{take-length}
use Rattle.std.specs.Int.{w32}
use borrow.Author.Tests.{leb-true, le-leb, lt-leb, eq-eqb, ne_eqb}
use Rattle.integers.specs.laws.Bounds.{Within}
use Rattle.integers.specs.laws.Linear.{ints}
use Rattle.lists.specs.Lists.{every}
use Rattle.lists.specs.laws.Every.{every_at}
use Rattle.lists.specs.laws.Tests.{and_both, and_true}
use Rattle.text.specs.Text.{minus}
use Rattle.text.specs.Decimal.{is_digit, numeral, value_of, natural, opposite, integer}

-- ---- the tests in turn, as code has them

module _ {b : ℕ} where
  pub digit_low : b < 48 → is_digit b ≡ false
  digit_low h = rw (lt-leb 48 b h)

  pub digit_high : 48 ≤ b → 57 < b → is_digit b ≡ false
  digit_high l h = rw (le-leb 48 b l, lt-leb b 57 h)

  pub digit_yes : 48 ≤ b → b ≤ 57 → is_digit b ≡ true
  digit_yes l h = and_true (le-leb 48 b l) (le-leb b 57 h)

module _ (ds : List ℕ) where
  pub numeral_short : length ds < 1 → numeral ds ≡ false
  unfolding numeral
  numeral_short h = rw (lt-leb 1 (length ds) h)

  module _ (low : 1 ≤ length ds) where
    pub numeral_long : 5 < length ds → numeral ds ≡ false
    unfolding numeral
    numeral_long h = rw (le-leb 1 (length ds) low, lt-leb (length ds) 5 h)

    module _ (high : length ds ≤ 5) where
      pub numeral_other : every is_digit ds ≡ false → numeral ds ≡ false
      unfolding numeral
      numeral_other e = rw (le-leb 1 (length ds) low, le-leb (length ds) 5 high, e)

      pub numeral_one : every is_digit ds ≡ true → length ds ≡ 1 → numeral ds ≡ true
      unfolding numeral
      numeral_one e q = rw (le-leb 1 (length ds) low, le-leb (length ds) 5 high, e, eq-eqb (length ds) 1 q)

      pub numeral_several : every is_digit ds ≡ true → (length ds ≡ 1 → ⊥) → numeral ds ≡ not (eqb (get_or ds 0 0) 48)
      unfolding numeral
      numeral_several e d = rw (le-leb 1 (length ds) low, le-leb (length ds) 5 high, e, ne_eqb (length ds) 1 d)

-- ---- a numeral's digits

is_digit_lem : {b : ℕ} → is_digit b ≡ true → (48 ≤ b) × (b ≤ 57)
is_digit_lem {b} e = let (low, high) = and_both (leb 48 b) _ e in (leb-true 48 b low, leb-true b 57 high)

pub record Numeral (ds : List ℕ) : Type 0 where
  pub some_digits : 1 ≤ length ds
  pub few : length ds ≤ 5
  pub digit : (i : ℕ) → i < length ds → (48 ≤ get_or ds i 0) × (get_or ds i 0 ≤ 57)

pub numeral_is : (ds : List ℕ) → numeral ds ≡ true → Numeral ds
unfolding numeral
numeral_is ds e =
    let (front, zeros) = and_both (leb 1 (length ds) && leb (length ds) 5 && every is_digit ds) _ e in
    let (lengths, digits) = and_both (leb 1 (length ds) && leb (length ds) 5) _ front in
    let (low, high) = and_both (leb 1 (length ds)) _ lengths in
    record {
      some_digits = leb-true 1 (length ds) low;
      few = leb-true (length ds) 5 high;
      digit = λ i h. is_digit_lem (every_at is_digit 0 ds digits i h);
    }

-- ---- the number, one digit more

value_suc : (ds : List ℕ) (i : ℕ) → i < length ds → value_of (take (suc i) ds) ≡ 10 * value_of (take i ds) + (get_or ds i 0 - 48)
value_suc ds i h = rw (take-suc ds i 0 h) (foldl-append (λ (n : ℕ) (d : ℕ). 10 * n + (d - 48)) 0 (take i ds) (get_or ds i 0 ∷ []))

pub value_more : (ds : List ℕ) (i : ℕ) → i < length ds → value_of (take (i + 1) ds) ≡ 10 * value_of (take i ds) + (get_or ds i 0 - 48)
value_more ds i h = rw (add-one i) (value_suc ds i h)

value_power : (ds : List ℕ) → Numeral ds → (i : ℕ) → i ≤ length ds → value_of (take i ds) < 10 ^ i
value_power ds d zero h = lit< tt
value_power ds d (suc i) h = rw (value_suc ds i h) (omega (arith, d.digit i h, value_power ds d i (omega arith)))

pub value_so_far : (ds : List ℕ) → numeral ds ≡ true → (i : ℕ) → i ≤ length ds → value_of (take i ds) < 100000
value_so_far ds e i h =
    let d = numeral_is ds e in
    let most : 10 ^ i ≤ 10 ^ 5 = pow-le-pow_right (lit< tt) {i = i} {j = 5} (omega (arith, d.few)) in
    omega (arith, value_power ds d i h)

pub value_small : (ds : List ℕ) → numeral ds ≡ true → value_of ds < 100000
value_small ds e = rw (take-length ds) at (value_so_far ds e (length ds) (omega arith))

-- such a number in a signed local: it fits, and its bits are read back as itself
pub small_fits : {n : ℕ} → n < 100000 → SFits w32 (pos n)
small_fits h = simp ints (omega arith)

pub small_signed : {n : ℕ} → n < 100000 → to_z w32 n ≡ pos n
small_signed h = to_z-of_z (small_fits h)

-- ---- what is accepted

pub natural_yes : (ds : List ℕ) → numeral ds ≡ true → natural ds ≡ some (value_of ds)
unfolding natural
natural_yes ds e = rw e

pub natural_no : (ds : List ℕ) → numeral ds ≡ false → natural ds ≡ none
unfolding natural
natural_no ds e = rw e

-- the opposite of a number but 0, as code has it
pub opposite_of_lem : (n : ℕ) → (n ≡ 0 → ⊥) → opposite n ≡ some (pos 0 -ℤ pos n)
unfolding opposite
opposite_of_lem zero d = absurd (d refl)
opposite_of_lem (suc n) d = ap some (simp ints (omega arith))

module _ (ds : List ℕ) where
  pub opposite_no : numeral ds ≡ false → bind (natural ds) opposite ≡ none
  unfolding bind
  opposite_no e = rw (natural_no ds e)

  pub opposite_zero : numeral ds ≡ true → value_of ds ≡ 0 → bind (natural ds) opposite ≡ none
  unfolding bind opposite
  opposite_zero e q = rw (natural_yes ds e, q)

  pub opposite_yes : numeral ds ≡ true → (value_of ds ≡ 0 → ⊥) → bind (natural ds) opposite ≡ some (pos 0 -ℤ pos (value_of ds))
  unfolding bind
  opposite_yes e d = rw (natural_yes ds e) (opposite_of_lem (value_of ds) d)

  pub integer_nothing : length ds < 1 → integer ds ≡ none
  integer_nothing h = go ds h
    where
      go : (ds : List ℕ) → length ds < 1 → integer ds ≡ none
      go [] h = unfold integer natural numeral in refl
      go (d ∷ ds) h = absurd (omega arith)

  pub integer_minus : get_or ds 0 0 ≡ minus → integer ds ≡ bind (natural (drop 1 ds)) opposite
  unfolding integer
  integer_minus e = rw (eq-eqb (get_or ds 0 0) minus e) (ap (λ l. bind (natural l) opposite) (go ds))
    where
      go : (ds : List ℕ) → tail ds ≡ drop 1 ds
      go [] = refl
      go (d ∷ ds) = refl

  pub integer_plain : (get_or ds 0 0 ≡ minus → ⊥) → integer ds ≡ map pos (natural ds)
  unfolding integer
  integer_plain d = rw (ne_eqb (get_or ds 0 0) minus d)

pub natural_small : (ds : List ℕ) (n : ℕ) → natural ds ≡ some n → n < 100000
unfolding natural
natural_small ds n e = go (numeral ds) refl e
  where
    go : (t : Bool) → numeral ds ≡ t → cond t (some (value_of ds)) none ≡ some n → n < 100000
    go true q e = let same : value_of ds ≡ n = cc in omega (arith, value_small ds q)
    go false q e = absurd (let never : ◌≡◌ {A = ℕ} 0 1 = cc in omega arith)

pub integer_small : (ds : List ℕ) (z : ℤ) → integer ds ≡ some z → Within 99999 z
unfolding integer
integer_small ds z e = go (eqb (get_or ds 0 0) minus) e
  where
    negative : (o : Option ℕ) → natural (tail ds) ≡ o → bind o opposite ≡ some z → Within 99999 z
    negative none q e = unfold bind in absurd (let never : ◌≡◌ {A = ℕ} 0 1 = cc in omega arith)
    negative (some zero) q e = unfold bind opposite in absurd (let never : ◌≡◌ {A = ℕ} 0 1 = cc in omega arith)
    negative (some (suc n)) q e =
        unfold bind opposite in let same : negsuc n ≡ z = cc in rw (← same) (record { within = omega (arith, natural_small (tail ds) (suc n) q) })

    positive : (o : Option ℕ) → natural ds ≡ o → map pos o ≡ some z → Within 99999 z
    positive none q e = absurd (let never : ◌≡◌ {A = ℕ} 0 1 = cc in omega arith)
    positive (some n) q e = let same : pos n ≡ z = cc in rw (← same) (record { within = omega (arith, natural_small ds n q) })

    go : (t : Bool) → cond t (bind (natural (tail ds)) opposite) (map pos (natural ds)) ≡ some z → Within 99999 z
    go true e = negative (natural (tail ds)) refl e
    go false e = positive (natural ds) refl e
