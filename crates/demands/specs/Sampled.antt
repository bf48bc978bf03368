-- Channel values from a radio's samples (document 02, request 5), the statement: what is written for each sample, said over the numbers that floats stand for,
-- with no bits named; that the opposite samples give the opposite values; and that no list so written is refused by 6.
-- Assumes nothing.
use Rattle.std.specs.Prelude.{◌≡◌, ◌≢◌, true, List, map, ℕ, ◌*◌, ◌%◌, ◌≤◌, ◌<◌, Float, ℤ, pos, neg_ℤ, ◌-ℤ◌, ◌*ℤ◌, nat_abs, length, get_or, Ok}
use Rattle.std.proofs.Math.Option.{Option, none, some}
use Rattle.std.specs.Float.{nan, inf, fin}
use Rattle.std.specs.Float.Ieee.{up, down, neg}
use Rattle.integers.specs.Integers.{limited}
use Rattle.trellis.specs.Limits.{channel_limit, channel_fits}
use Rattle.samples.specs.declared.Setting.{Setting}
use Rattle.samples.specs.Samples.{zero, product, with_sign, sample_values}

-- ---- the nearest whole number

-- a finite number as a fraction of a whole number and one above 0
pub record Fraction : Type 0 where
  pub over : ℤ
  pub under : ℕ

-- how far it is from the whole number k, taken `under` times
abbrev pub distance : Fraction → ℤ → ℕ
distance x k = nat_abs (x.over -ℤ pos x.under *ℤ k)

-- no whole number is nearer, and where another is as near, this is the even one
pub record IsNearest (x : Fraction) (whole : ℤ) : Type 0 where
  pub nearest : (k : ℤ) → distance x whole ≤ distance x k
  pub even : (k : ℤ) → k ≢ whole → distance x k ≡ distance x whole → nat_abs whole % 2 ≡ 0

-- and then limited to -1,023..1,023
pub record IsNearestLimited (x : Fraction) (value : ℤ) : Type 0 where
  pub whole : ℤ
  pub nearest : IsNearest x whole
  pub is : value ≡ limited channel_limit whole

-- ---- the value of a sample

-- by the last product, (reliability·scale)·sample, as rounded in f32: it is a number, and an infinite one is limited by its sign
unfoldable pub IsRounded : Float → ℤ → Type 0
IsRounded nan value = ⊥
IsRounded (inf s) value = value ≡ with_sign s channel_limit
IsRounded (fin s m e) value = IsNearestLimited (record { over = with_sign s (m * up e); under = down e }) value

-- a silent channel has no product, and gives 0
unfoldable pub IsValue : Option Float → ℤ → Type 0
IsValue none value = value ≡ pos 0
IsValue (some p) value = IsRounded p value

-- one for each sample
pub record AreValues (s : Setting) (samples : List Float) (values : List ℤ) : Type 0 where
  pub long : length values ≡ length samples
  pub value : (i : ℕ) → i < length samples → IsValue (product s (get_or samples i zero)) (get_or values i (pos 0))

-- ---- every call, whatever is lent

pub record EverySampleCall : Type 0 where
  pub written : (s : Setting) (samples : List Float) (lent : List ℤ) →
      let x = sample_values s samples lent in
      x.reply ≡ Ok tt → AreValues s samples x.values
  pub opposite : (s : Setting) (samples : List Float) (lent : List ℤ) →
      let x = sample_values s samples lent in
      let y = sample_values s (map neg samples) lent in
      (y.reply ≡ x.reply) × (x.reply ≡ Ok tt → y.values ≡ map neg_ℤ x.values)
  pub in_limits : (s : Setting) (samples : List Float) (lent : List ℤ) →
      let x = sample_values s samples lent in
      x.reply ≡ Ok tt → channel_fits x.values ≡ true
