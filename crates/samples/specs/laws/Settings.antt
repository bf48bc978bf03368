-- A setting's numbers: how the code tests them and multiplies by them, that the products before the last are finite, and that the last is a number.
-- Assumes nothing.
use Rattle.std.specs.Prelude.{◌≡◌, Bool, true, false, ◌&&◌, ◌||◌, not, ℕ, ◌*◌, T, eqb, Float, pos}
use Rattle.std.proofs.Math.Path.{refl}
use Rattle.std.proofs.Common.{sym, ◌∙◌, zero-mul, mul-pos, le_of_eq, arith, eqb-true, le-ltb, lit<, lit≤}
use Rattle.std.specs.Bool.{beq}
use Rattle.std.proofs.Math.Bool.{and-false}
use Rattle.std.proofs.lemmas.Bool.{false≢true}
use Rattle.std.proofs.Math.Option.{Option, none, some, Option-elim}
use Rattle.std.proofs.Math.Nat.{sub_self}
use Rattle.std.specs.Float.{nan, inf, fin, binary32}
use Rattle.std.specs.Float.Ieee.{up, down, round, sub, eq, le, is_nan, of_bits}
use Rattle.std.specs.Float.Ieee.Fits.{down_pos}
use Rattle.std.specs.Float.Ieee.Positive.{num}
use Rattle.std.specs.Float.Ieee.Scale.{finite}
use Rattle.lists.specs.laws.Tests.{and_both}
use Rattle.samples.specs.declared.Channel.{Channel}
use Rattle.samples.specs.declared.Channel.TheVariants.{Steady, Fading, Silent}
use Rattle.samples.specs.declared.Setting.{Setting}
use Rattle.samples.specs.Samples.{◌*ᶠ◌, zero, four, reliability, product, nearest_value, sample_value, in_range, channel_in_range, setting_fits}
use Rattle.samples.specs.laws.Products.{AtMost, at_most_own, at_most_below, upright_at_most, product_at_most, product_number}
use Rattle.samples.specs.laws.Rounding.{value_of_zero}

-- ---- the numbers of the code

pub zero_is : of_bits binary32 0 ≡ zero
unfolding of_bits
zero_is = refl

pub four_is : of_bits binary32 1082130432 ≡ four
unfolding of_bits
four_is = refl

pub most_is : of_bits binary32 1149239296 ≡ fin false 1 (pos 10)
unfolding of_bits
most_is = refl

-- ---- a setting in range

-- as the code tests a number: first that it is not below 0
pub range_from_zero : (x : Float) → le zero x ≡ true → le x (fin false 1 (pos 10)) ≡ in_range x
unfolding in_range le
range_from_zero nan h = refl
range_from_zero (inf true) h = absurd (false≢true h)
range_from_zero (inf false) h = refl
range_from_zero (fin s m e) h = rw h

pub range_below_zero : (x : Float) → le zero x ≡ false → false ≡ in_range x
unfolding in_range
range_below_zero nan h = refl
range_below_zero (inf s) h = refl
range_below_zero (fin s m e) h = rw h

-- what the test of a number goes by
pub ruleset range_tests = (zero_is, most_is, range_from_zero, range_below_zero)

holds : (b : Bool) → b ≡ true → T b
holds true e = tt
holds false e = absurd (false≢true e)

-- what 0 ≤ -x comes to
no_size : (a b : ℕ) → (eqb a b && (false || eqb a 0)) ≡ true → b ≡ 0
no_size a b h = let (same, empty) = and_both _ _ h in sym (eqb-true a b same) ∙ eqb-true a 0 empty

range_at_most : (x : Float) → in_range x ≡ true → AtMost 1024 x
unfolding in_range le
range_at_most nan h = absurd (false≢true h)
range_at_most (inf s) h = absurd (false≢true h)
range_at_most (fin false m e) h =
    let (low, high) = and_both (le zero (fin false m e)) (le (fin false m e) (fin false 1 (pos 10))) h in
    at_most_below (fin false m e) (fin false 1 (pos 10)) 1024 refl (refl, refl) (holds _ high)
range_at_most (fin true m e) h =
    let (low, high) = and_both (le zero (fin true m e)) (le (fin true m e) (fin false 1 (pos 10))) h in
    record { finite_is = refl; small = omega (arith, no_size (0 * up (pos 0) * down e) (m * up e * down (pos 0)) low) }

-- ---- a finite number less itself is 0

equals_zero : (x : Float) → AtMost 0 x → eq x zero ≡ true
unfolding eq
equals_zero nan h = absurd (false≢true h.finite_is)
equals_zero (inf s) h = absurd (false≢true h.finite_is)
equals_zero (fin s m e) h =
    let here : m * up e * down (pos 0) ≡ 0 = omega (arith, h.small) in
    let there : 0 * up (pos 0) * down e ≡ 0 = zero-mul (down e) in
    rw (here, there) (go s)
  where
    go : (s : Bool) → (true && (beq s false || true)) ≡ true
    go true = refl
    go false = refl

pub less_itself : (x : Float) → eq (sub binary32 x x) zero ≡ finite x
unfolding sub
less_itself nan = unfold eq in refl
less_itself (inf true) = unfold eq in refl
less_itself (inf false) = unfold eq in refl
less_itself (fin s m e) = rw (apart s, le-ltb size size (le_of_eq refl), sub_self size, and-false s) (equals_zero _ nothing_left)
  where
    size : ℕ
    size = m * up e * down e

    apart : (s : Bool) → beq s (not s) ≡ false
    apart true = refl
    apart false = refl

    nothing_left : AtMost 0 (round binary32 false 0 (down e * down e))
    nothing_left = upright_at_most 0 (down e * down e) 0 0 0 (mul-pos (down_pos e) (down_pos e)) (le_of_eq (sym (zero-mul (down e * down e)))) refl (lit< tt) (lit≤ tt)

-- ---- the factor that the code multiplies by

-- the reliability, and 0 for a silent channel
unfoldable pub factor : Channel → Float
factor (Steady ratio) = four *ᶠ ratio
factor (Fading amplitude ratio) = (four *ᶠ amplitude) *ᶠ ratio
factor Silent = zero

four_at_most : AtMost 4 four
four_at_most = record { finite_is = refl; small = lit≤ tt }

-- a silent channel: 0 at every product
silent_gain : (scale : Float) → in_range scale ≡ true → AtMost 0 (zero *ᶠ scale)
silent_gain scale h = product_at_most zero scale 0 0 (at_most_own zero refl) (range_at_most scale h) refl (lit< tt) (lit≤ tt)

silent_value : (scale x : Float) → in_range scale ≡ true → finite x ≡ true → nearest_value ((zero *ᶠ scale) *ᶠ x) ≡ pos 0
silent_value scale x h f =
    let empty : 0 * num x ≡ 0 = zero-mul (num x) in
    value_of_zero _ (rw empty at (product_at_most (zero *ᶠ scale) x 0 0 (silent_gain scale h) (at_most_own x f) empty (lit< tt) (lit≤ tt)))

channel_gain : (c : Channel) (scale : Float) → channel_in_range c ≡ true → in_range scale ≡ true → finite (factor c *ᶠ scale) ≡ true
unfolding channel_in_range factor
channel_gain (Steady ratio) scale h k =
    let reliability = product_at_most four ratio 1 12 four_at_most (range_at_most ratio h) refl (lit< tt) (lit≤ tt) in
    (product_at_most (four *ᶠ ratio) scale 1 22 reliability (range_at_most scale k) refl (lit< tt) (lit≤ tt)).finite_is
channel_gain (Fading amplitude ratio) scale h k =
    let (a, r) = and_both (in_range amplitude) (in_range ratio) h in
    let first = product_at_most four amplitude 1 12 four_at_most (range_at_most amplitude a) refl (lit< tt) (lit≤ tt) in
    let reliability = product_at_most (four *ᶠ amplitude) ratio 1 22 first (range_at_most ratio r) refl (lit< tt) (lit≤ tt) in
    (product_at_most ((four *ᶠ amplitude) *ᶠ ratio) scale 1 32 reliability (range_at_most scale k) refl (lit< tt) (lit≤ tt)).finite_is
channel_gain Silent scale h k = (silent_gain scale k).finite_is

-- the products before the last are finite
pub gain_finite : (s : Setting) → setting_fits s ≡ true → finite (factor s.channel *ᶠ s.scale) ≡ true
unfolding setting_fits
gain_finite s h =
    let (scale, channel) = and_both (in_range s.scale) (channel_in_range s.channel) h in
    channel_gain s.channel s.scale channel scale

-- ---- the value by the factor

pub value_by_factor : (s : Setting) (x : Float) → setting_fits s ≡ true → finite x ≡ true →
    nearest_value ((factor s.channel *ᶠ s.scale) *ᶠ x) ≡ sample_value s x
unfolding setting_fits sample_value product
value_by_factor s x h f = go s.channel
  where
    scale_in : in_range s.scale ≡ true
    scale_in = (and_both (in_range s.scale) (channel_in_range s.channel) h).0

    go : (c : Channel) → nearest_value ((factor c *ᶠ s.scale) *ᶠ x) ≡ Option-elim (Option-elim (reliability c) none (λ r. some ((r *ᶠ s.scale) *ᶠ x))) (pos 0) nearest_value
    go (Steady ratio) = unfold factor reliability Option-elim in refl
    go (Fading amplitude ratio) = unfold factor reliability Option-elim in refl
    go Silent = unfold factor reliability Option-elim in silent_value s.scale x scale_in f

-- ---- the last product

-- where there is a product, it is no NaN
unfoldable pub IsNumber : Option Float → Type 0
IsNumber none = Unit
IsNumber (some p) = is_nan p ≡ false

pub product_is_number : (s : Setting) (x : Float) → setting_fits s ≡ true → finite x ≡ true → IsNumber (product s x)
unfolding product
product_is_number s x h f = go s.channel (gain_finite s h)
  where
    go : (c : Channel) → finite (factor c *ᶠ s.scale) ≡ true → IsNumber (Option-elim (reliability c) none (λ r. some ((r *ᶠ s.scale) *ᶠ x)))
    go (Steady ratio) g = unfold IsNumber reliability Option-elim in product_number _ x (unfold factor in g) f
    go (Fading amplitude ratio) g = unfold IsNumber reliability Option-elim in product_number _ x (unfold factor in g) f
    go Silent g = unfold IsNumber reliability Option-elim in tt
