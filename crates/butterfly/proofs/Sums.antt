-- Sums of small numbers: of metrics that are there, and of a branch's two values by their signs.
-- Assumes nothing.
use mathlib.Core.Path.{◌≡◌, sym, ap, ◌∙◌}
use mathlib.Core.Bool.{Bool, true, false, cond}
use mathlib.Core.Logic.{inl, inr}
use mathlib.Core.Option.{Option, none, some, Option-elim}
use Prim.Native.Nat.{ℕ, suc, ◌+◌, ◌*◌, ◌^◌, ◌≤◌, ◌<◌}
use native.Mathlib.Omega.{arith}
use lib.IntN.{ℤ, pos, negsuc, neg_ℤ, ◌+ℤ◌, ◌-ℤ◌, ◌*ℤ◌}
use lib.Signed.{mag}
use lib.ListN.{get_or}
use mathlib.Core.List.{List}
use mir.Facts.{to_z-of_z}
use mir.Syntax.{w32}
use mir.Val.{SFits, hbits, to_z, of_z}
use Rattle.integers.specs.laws.Bounds.{Within}
use Rattle.integers.specs.laws.Laws.{within_more, within_sum}
use Rattle.integers.specs.laws.Linear.{ints, fits_of}
use Rattle.trellis.specs.Path.{signed}
use Rattle.trellis.specs.laws.MaxPlus.{plus}
use Rattle.trellis.proofs.laws.Signs.{signed_within}
use Rattle.trellis.specs.laws.Sizes.{Small}
use Rattle.trellis.specs.laws.Sizes.{absent, present}
use Rattle.trellis.proofs.laws.Sizes.{small_known}
use Rattle.metrics.specs.Words.{is_nothing, held}
use Rattle.metrics.specs.laws.Held.{found_some, held_small}
use Rattle.lists.specs.Lists.{found}
use Rattle.butterfly.specs.laws.Metrics.{IsSign, is_minus, gain_of, gain_at}

pub small_fits : (z : ℤ) → Within 200000000 z → SFits w32 z
small_fits z = simp ints (omega arith)

pub zero_minus : (z : ℤ) → pos 0 -ℤ z ≡ neg_ℤ z
zero_minus z = simp ints (omega arith)

pub opposite_small : {m : ℕ} {z : ℤ} → Within m z → Within m (neg_ℤ z)
opposite_small {m} {z} = simp ints (omega arith)

-- an opposite metric, as it is worked out
pub opposite_fits : {g : ℤ} → Within 10237 g → SFits w32 (pos 0 -ℤ g)
opposite_fits {g} small = rw (zero_minus g) (small_fits _ (within_more (omega arith) (opposite_small small)))

pub opposite_read : {g : ℤ} → Within 10237 g → to_z w32 (of_z w32 (pos 0 -ℤ g)) ≡ neg_ℤ g
opposite_read {g} small = to_z-of_z (opposite_fits small) ∙ zero_minus g

-- a metric that is there is read as it stands
pub stands :
    {m : ℕ} (z : ℤ) → m ≤ 200000000 → found (held z) ≡ true → Small m (held z)
    → held (to_z w32 (of_z w32 z)) ≡ some (to_z w32 (of_z w32 z))
stands z few is small =
    let there : held z ≡ some z = found_some z is in
    let fits : SFits w32 z = small_fits z (within_more few (small_known (rw there at small))) in
    rw (to_z-of_z fits) there

-- a word that comes back from a local stands for what it stood for
pub kept : (z : ℤ) {X : Option ℤ} → mag z < 2 ^ hbits w32 → held z ≡ X → held (to_z w32 (of_z w32 z)) ≡ X
kept z h e = rw (to_z-of_z {w = w32} {z = z} (fits_of h)) e

-- ---- metrics that are there

-- their sum fits, and is there
pub sum_there :
    {a b : ℕ} (x y : ℤ) {X : Option ℤ} → a + b ≤ 200000000 → X ≡ some x → Small a X → Within b y
    → Within (a + b) (x +ℤ y) × (held (x +ℤ y) ≡ plus X (some y))
unfolding plus
sum_there x y few is small y-small =
    let within = within_sum (small_known (rw is at small)) y-small in
    (within, rw is (held_small _ (within_more few within)))

-- a word that stands for a number is that number
known : (r : ℤ) {z : ℤ} → held r ≡ some z → r ≡ z
unfolding Option-elim
known r = go (is_nothing r)
  where
    go : {z : ℤ} (t : Bool) → cond t none (some r) ≡ some z → r ≡ z
    go true e = absurd (let q : ◌≡◌ {A = ℕ} 0 1 = ap (λ o. Option-elim o 0 (λ x. 1)) e in omega arith)
    go false e = ap (λ o. Option-elim o (pos 0) (λ x. x)) e

-- a word that stands for a sum of what is there stands for itself
pub sum_stands : (r g : ℤ) {X : Option ℤ} {x : ℤ} → held r ≡ plus X (some g) → X ≡ some x → held r ≡ some r
unfolding plus
sum_stands r g {X} {x} e is =
    let there : held r ≡ some (x +ℤ g) = e ∙ ap (λ o. plus o (some g)) is in
    there ∙ ap some (sym (known r there))

pub same_small : {m : ℕ} {X Y : Option ℤ} → X ≡ Y → Small m Y → Small m X
same_small e small = rw e small

pub sum_small : {a b : ℕ} {X : Option ℤ} {g : ℤ} → Small a X → Within b g → Small (a + b) (plus X (some g))
unfolding plus
sum_small absent g-small = absent
sum_small (present x-small) g-small = present (within_sum x-small g-small)

-- ---- signs

minus_times : (x : ℤ) → negsuc 0 *ℤ x ≡ neg_ℤ x
minus_times (pos n) = let e : 1 * n ≡ n = omega arith in ap (λ k. neg_ℤ (pos k)) e
minus_times (negsuc n) = let e : 1 * suc n ≡ suc n = omega arith in ap pos e

one_times : (x : ℤ) → pos 1 *ℤ x ≡ x
one_times x = simp ints (omega arith)

-- a sign times a number is the signed number
pub sign_times : (a x : ℤ) → IsSign a → a *ℤ x ≡ signed (cond (is_minus a) 0 1) x
unfolding signed
sign_times a x (inl e) = rw e (minus_times x)
sign_times a x (inr e) = rw e (one_times x)

pub product_fits : {m : ℕ} (a x : ℤ) → m ≤ 200000000 → IsSign a → Within m x → SFits w32 (a *ℤ x)
product_fits a x few sign small = rw (sign_times a x sign) (small_fits _ (within_more few (signed_within _ small)))

pub gain_small : (a b : ℤ) {x y : ℤ} → Within 9214 x → Within 1023 y → Within 10237 (gain_of a b x y)
gain_small a b own other = within_sum (signed_within _ own) (signed_within _ other)

-- a wing's metric, as it is read
module _ (signs : List ℤ) (i : ℕ) {own other r : ℤ} (own_small : Within 9214 own) (other_small : Within 1023 other) (r-fits : mag r < 2 ^ hbits w32)
    (is : r ≡ gain_at signs own other i) where
  pub gain_read : to_z w32 (of_z w32 r) ≡ gain_at signs own other i
  gain_read = to_z-of_z {w = w32} (fits_of r-fits) ∙ is

  pub gain_within : Within 10237 (to_z w32 (of_z w32 r))
  gain_within = rw gain_read (gain_small (get_or signs i (pos 0)) (get_or signs (8 + i) (pos 0)) own_small other_small)
