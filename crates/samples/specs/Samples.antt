-- Channel values from the samples of a radio (document 02, request 5): the reliability that a channel gives, the products in the paper's order, the nearest
-- whole number, and the whole result of a call.
-- Assumes nothing.
use Rattle.std.specs.Prelude.{Bool, true, false, ◌&&◌, List, [], ◌∷◌, map, ℕ, ◌*◌, eqb, Float, ℤ, pos, neg_ℤ, length}
use Rattle.std.proofs.Math.Option.{Option, none, some, Option-elim}
use Rattle.std.specs.Float.{nan, inf, fin, binary32}
use Rattle.std.specs.Float.Ieee.{up, down, mul, le}
use Rattle.std.specs.Float.Ieee.Nearest.{closest}
use Rattle.std.specs.Float.Ieee.Scale.{finite}
use Rattle.integers.specs.Integers.{limited}
use Rattle.lists.specs.Lists.{every}
use Rattle.refusal.specs.declared.Refusal.TheVariants.{Lists, Setting as SettingRefused, Sample}
use Rattle.refusal.specs.Refusals.{Reply, Check, ◌unless◌, first_of, after}
use Rattle.trellis.specs.Limits.{channel_limit}
use Rattle.samples.specs.declared.Channel.{Channel}
use Rattle.samples.specs.declared.Channel.TheVariants.{Steady, Fading, Silent}
use Rattle.samples.specs.declared.Setting.{Setting}

-- ---- the value of a sample

-- a product in f32, rounded once
infixl 7 ◌*ᶠ◌
abbrev pub ◌*ᶠ◌ : Float → Float → Float
x *ᶠ y = mul binary32 x y

abbrev pub zero : Float
zero = fin false 0 (pos 0)

abbrev pub four : Float
four = fin false 1 (pos 2)

-- reliability: 4·ratio when steady, (4·amplitude)·ratio when fading. A silent channel has none
unfoldable pub reliability : Channel → Option Float
reliability (Steady ratio) = some (four *ᶠ ratio)
reliability (Fading amplitude ratio) = some ((four *ᶠ amplitude) *ᶠ ratio)
reliability Silent = none

-- the last product: (reliability·scale)·sample
unfoldable pub product : Setting → Float → Option Float
product s x = Option-elim (reliability s.channel) none (λ r. some ((r *ᶠ s.scale) *ᶠ x))

-- a whole number by its sign, true for minus, and its size
abbrev pub with_sign : Bool → ℕ → ℤ
with_sign true n = neg_ℤ (pos n)
with_sign false n = pos n

-- a product as a channel value: the nearest whole number, halves to even, then limited to -1,023..1,023. An infinite one is limited by its sign. (None
-- of an accepted call is a NaN.)
unfoldable pub nearest_value : Float → ℤ
nearest_value nan = pos 0
nearest_value (inf s) = with_sign s channel_limit
nearest_value (fin s m e) = limited channel_limit (with_sign s (closest (m * up e) (down e)))

-- the value of a sample: silent gives 0
unfoldable pub sample_value : Setting → Float → ℤ
sample_value s x = Option-elim (product s x) (pos 0) nearest_value

-- ---- a call

-- a number of the setting is finite and in 0..1,024; -0 is not below 0
unfoldable pub in_range : Float → Bool
in_range x = finite x && (le zero x && le x (fin false 1 (pos 10)))

-- those that the channel's case holds
unfoldable pub channel_in_range : Channel → Bool
channel_in_range (Steady ratio) = in_range ratio
channel_in_range (Fading amplitude ratio) = in_range amplitude && in_range ratio
channel_in_range Silent = true

-- the setting (not so: 17)
unfoldable pub setting_fits : Setting → Bool
setting_fits s = in_range s.scale && channel_in_range s.channel

-- every sample is finite, whatever the channel (not so: 18)
unfoldable pub samples_fit : List Float → Bool
samples_fit samples = every finite samples

-- the checks of a call, in their order; `long` is the length of the list for the values
unfoldable pub sample_checks : Setting → List Float → ℕ → List Check
sample_checks s samples long =
    Lists unless eqb (length samples) long
    ∷ SettingRefused unless setting_fits s
    ∷ Sample unless samples_fit samples
    ∷ []

-- the reply, and the list for the values as it is left
pub record SampleResult : Type 0 where
  pub reply : Reply
  pub values : List ℤ

abbrev pub sample_result_of : Reply → List ℤ → SampleResult
sample_result_of r values = record { reply = r; values = values }

unfoldable pub sample_values : Setting → List Float → List ℤ → SampleResult
sample_values s samples values =
    let r = first_of (sample_checks s samples (length values)) in
    sample_result_of r (after r (map (sample_value s) samples) values)
