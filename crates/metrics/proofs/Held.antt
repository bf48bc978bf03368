-- What the functions of metrics as words go by: whether a sum is there, the larger of two, and what a word within the limit tells.
-- Assumes nothing.
use Rattle.std.specs.Prelude.{◌≡◌, refl, Bool, true, false, ◌&&◌, ◌||◌, ℤ, pos, negsuc, ◌-ℤ◌}
use Rattle.std.proofs.Common.{sym, arith, SFits}
use Rattle.std.proofs.Math.Option.{Option, none, some}
use Rattle.std.specs.Int.{w32}
use Rattle.std.specs.Int.Signed.{◌<ℤ◌, le_z, quot_z}
use Rattle.std.specs.Cmp.{int_ranks}
use Rattle.std.specs.Ordering.{MatchOrdering, is_le, int_cmp}
use Rattle.std.proofs.Common.{Ordering, Less, Equal, Greater}
use Rattle.integers.specs.Integers.{inside}
use Rattle.integers.specs.laws.Linear.{ints}
use Rattle.lists.specs.Lists.{found}
use Rattle.trellis.specs.Outcome.{larger}
use Rattle.trellis.specs.laws.MaxPlus.{plus}
use Rattle.metrics.specs.Words.{best_limit}

-- a sum is there where both metrics are
pub found_plus : (x y : Option ℤ) → found (plus x y) ≡ (found x && found y)
unfolding found plus
found_plus none y = refl
found_plus (some a) none = refl
found_plus (some a) (some b) = refl

-- the larger of two where one is
pub found_larger : (x y : Option ℤ) → found (larger x y) ≡ (found x || found y)
unfolding found larger
found_larger none y = refl
found_larger (some a) none = refl
found_larger (some a) (some b) = refl

-- ---- words within the limit

-- what a comparison tells
at_most : (a b : ℤ) → is_le (int_cmp a b) ≡ le_z a b
at_most a b = go (int_cmp a b) (int_ranks a b)
  where
    less : a <ℤ b → true ≡ le_z a b
    less h = sym (go h)
      where
        go : a <ℤ b → le_z a b ≡ true
        go = simp ints (omega arith)

    same : a ≡ b → true ≡ le_z a b
    same h = sym (go h)
      where
        go : a ≡ b → le_z a b ≡ true
        go = simp ints (omega arith)

    more : b <ℤ a → false ≡ le_z a b
    more h = sym (go h)
      where
        go : b <ℤ a → le_z a b ≡ false
        go = simp ints (omega arith)

    go : (o : Ordering) → MatchOrdering o (a <ℤ b) (a ≡ b) (b <ℤ a) → is_le o ≡ le_z a b
    go Less h = less h
    go Equal h = same h
    go Greater h = more h

-- a word lies in the limit's range
pub inside_range : (z : ℤ) → (is_le (int_cmp (negsuc 99999999) z) && is_le (int_cmp z (pos 100000000))) ≡ inside best_limit z
inside_range z = rw (at_most (negsuc 99999999) z, at_most z (pos 100000000)) (go (le_z (negsuc 99999999) z) refl (le_z z (pos 100000000)) refl)
  where
    both : le_z (negsuc 99999999) z ≡ true → le_z z (pos 100000000) ≡ true → inside best_limit z ≡ true
    both = simp ints (omega arith)

    under : le_z (negsuc 99999999) z ≡ false → inside best_limit z ≡ false
    under = simp ints (omega arith)

    past : le_z z (pos 100000000) ≡ false → inside best_limit z ≡ false
    past = simp ints (omega arith)

    go : (p : Bool) → le_z (negsuc 99999999) z ≡ p → (q : Bool) → le_z z (pos 100000000) ≡ q → (p && q) ≡ inside best_limit z
    go true e true f = sym (both e f)
    go true e false f = sym (past f)
    go false e q f = sym (under e)

-- what is read and computed of two words within the limit fits
abbrev pub Fitting : ℤ → ℤ → Type 0
Fitting y x = SFits w32 y × SFits w32 x × SFits w32 (y -ℤ x) × SFits w32 (quot_z (y -ℤ x) (pos 2))

pub inside_fitting : (y x : ℤ) → inside best_limit y ≡ true → inside best_limit x ≡ true → Fitting y x
inside_fitting y x = simp ints (omega arith)
