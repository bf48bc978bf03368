-- Laws of metrics as words: what a test for the reserved word tells, small numbers are other words, and the larger of two words stands for the
-- larger of their metrics.
-- Assumes nothing.
use Rattle.std.specs.Prelude.{◌≡◌, Bool, ◌≢◌, ℕ, zero, suc, ◌-◌, ◌^◌, ◌<◌, ℤ, pos, negsuc, replicate}
use Rattle.std.proofs.Math.Path.{refl}
use Rattle.std.proofs.Common.{sym, ap, ◌∙◌, arith, SFits, of_z, eqb-true, eq-eqb, ne_eqb}
use Rattle.std.proofs.Math.Bool.{true, false, cond, not}
use Rattle.std.proofs.lemmas.Bool.{false≢true}
use Rattle.std.proofs.Math.Option.{none, some}
use Rattle.std.specs.Int.Signed.{lt_z}
use Rattle.std.specs.Int.{w32}
use Rattle.integers.specs.Integers.{max_ℤ}
use Rattle.integers.specs.laws.Bounds.{Within}
use Rattle.integers.specs.laws.Linear.{ints, same_bits}
use Rattle.lists.specs.Lists.{found}
use Rattle.trellis.specs.Outcome.{larger}
use Rattle.trellis.specs.laws.MaxPlus.{larger_none}
use Rattle.metrics.specs.Words.{is_nothing, held, row}

-- ---- the reserved word

-- -2^31
abbrev pub nothing : ℤ
nothing = negsuc 2147483647

nothing_fits : SFits w32 nothing
nothing_fits = simp ints (omega arith)

-- no state of a row of reserved words is reached
pub unreached : (n s : ℕ) → s < n → row (replicate n nothing) s ≡ none
unreached zero s h = absurd (omega arith)
unreached (suc n) zero h = refl
unreached (suc n) (suc s) h = unreached n s (omega arith)

module _ (z : ℤ) where
  -- a test of a word tells of its bits
  pub held_none : of_z w32 z ≡ 2147483648 → held z ≡ none
  held_none e = simp (eq-eqb _ _ e)

  pub held_some : of_z w32 z ≢ 2147483648 → held z ≡ some z
  held_some h = simp (ne_eqb _ _ h)

  -- and so does whether there is a metric
  pub found_held : found (held z) ≡ not (is_nothing z)
  unfolding found
  found_held = go (is_nothing z)
    where
      go : (t : Bool) → found (cond t none (some z)) ≡ not t
      go true = refl
      go false = refl

  pub lost_none : found (held z) ≡ false → held z ≡ none
  unfolding found
  lost_none = go (is_nothing z)
    where
      go : (t : Bool) → found (cond t none (some z)) ≡ false → cond t none (some z) ≡ none
      go true e = refl
      go false e = absurd (false≢true (sym e))

  pub found_some : found (held z) ≡ true → held z ≡ some z
  unfolding found
  found_some = go (is_nothing z)
    where
      go : (t : Bool) → found (cond t none (some z)) ≡ true → cond t none (some z) ≡ some z
      go true e = absurd (false≢true e)
      go false e = refl

  -- the bits are the reserved word's alone
  is_nothing_lem : SFits w32 z → is_nothing z ≡ true → z ≡ nothing
  is_nothing_lem f e = same_bits f nothing_fits (eqb-true _ _ e)

-- a small number's word is another
not_nothing : (z : ℤ) → Within 200000000 z → is_nothing z ≡ false
not_nothing (pos n) h = ne_eqb n 2147483648 (λ e. omega arith)
not_nothing (negsuc n) h = ne_eqb (2 ^ 32 - suc n) 2147483648 (λ e. omega arith)

pub held_small : (z : ℤ) → Within 200000000 z → held z ≡ some z
held_small z h = rw (not_nothing z h)

-- ---- the larger of two words

-- the reserved word is the least
above_nothing : (b : ℤ) → SFits w32 b → max_ℤ nothing b ≡ b
above_nothing b = simp ints (omega arith)

below_nothing : (a : ℤ) → SFits w32 a → max_ℤ a nothing ≡ a
below_nothing a = simp ints (omega arith)

max_known : (a b : ℤ) → is_nothing a ≡ false → is_nothing b ≡ false → is_nothing (max_ℤ a b) ≡ false
unfolding max_ℤ
max_known a b e f = go (lt_z a b)
  where
    go : (t : Bool) → is_nothing (cond t b a) ≡ false
    go true = f
    go false = e

pub held_larger : (a b : ℤ) → SFits w32 a → SFits w32 b → held (max_ℤ a b) ≡ larger (held a) (held b)
unfolding larger
held_larger a b fits-a fits-b = go (is_nothing a) refl (is_nothing b) refl
  where
    go : (p : Bool) → is_nothing a ≡ p → (q : Bool) → is_nothing b ≡ q → held (max_ℤ a b) ≡ larger (held a) (held b)
    go true e q f = rw (is_nothing_lem a fits-a e) (ap held (above_nothing b fits-b))
    go false e true f = rw (is_nothing_lem b fits-b f) (ap held (below_nothing a fits-a) ∙ sym (larger_none (held a)))
    go false e false f = rw (max_known a b e f, e, f)
