-- Worked values of samples: the order of the products counts, halves go to the even number, and the limits.
-- Assumes nothing.
use Rattle.std.specs.Prelude.{◌≡◌, refl, true, false, List, [], ◌∷◌, ℕ, Float, pos, negsuc}
use Rattle.std.proofs.Math.Option.{Option-elim}
use Rattle.std.specs.Float.{nan, inf, fin, binary32}
use Rattle.std.specs.Float.Ieee.{mul, le, of_bits}
use Rattle.integers.specs.Integers.{limited, max_ℤ, min_ℤ}
use Rattle.lists.specs.Lists.{every}
use Rattle.refusal.specs.Refusals.{number_of, told, check, ◌then◌, first_of}
use Rattle.samples.specs.declared.Channel.{Channel}
use Rattle.samples.specs.declared.Channel.TheVariants.{Steady, Fading, Silent}
use Rattle.samples.specs.declared.Setting.{Setting}
use Rattle.samples.specs.Samples.{◌*ᶠ◌, four, reliability, product, nearest_value, sample_value, in_range, channel_in_range, setting_fits, samples_fit, sample_checks, sample_values}

abbrev setting : Float → Channel → Setting
setting scale channel = record { scale = scale; channel = channel }

abbrev one : Float
one = fin false 1 (pos 0)

-- ratio 0.25468937, scale 3.4183307 and sample 28.284687, each the nearest f32
abbrev ratio : Float
ratio = of_bits binary32 1048733349

abbrev scale : Float
scale = of_bits binary32 1079690734

abbrev sample : Float
sample = of_bits binary32 1105348362

-- 98; with scale·sample formed first it would be 99
the_order_of_products :
    (sample_value (setting scale (Steady ratio)) sample ≡ pos 98)
    × (nearest_value ((four *ᶠ ratio) *ᶠ (scale *ᶠ sample)) ≡ pos 99)
unfolding sample_value product reliability nearest_value Option-elim limited max_ℤ min_ℤ mul of_bits
the_order_of_products = (refl, refl)

-- each channel: ratio 1/4 and scale 1 leave a sample of 3 as it is; amplitude 1/2, ratio 3 and scale 8 make 48 of 1; and silent gives 0
each_channel :
    (sample_value (setting one (Steady (fin false 1 (negsuc 1)))) (fin false 3 (pos 0)) ≡ pos 3)
    × (sample_value (setting (fin false 1 (pos 3)) (Fading (fin false 1 (negsuc 0)) (fin false 3 (pos 0)))) one ≡ pos 48)
    × (sample_value (setting one Silent) one ≡ pos 0)
unfolding sample_value product reliability nearest_value Option-elim limited max_ℤ min_ℤ mul
each_channel = (refl, refl, refl)

-- 0.5, 1.5, 2.5 and -1.5, with reliability·scale of 1; an infinity of either sign, and 1,023.5
halves_to_even :
    (nearest_value (fin false 1 (negsuc 0)) ≡ pos 0)
    × (nearest_value (fin false 3 (negsuc 0)) ≡ pos 2)
    × (nearest_value (fin false 5 (negsuc 0)) ≡ pos 2)
    × (nearest_value (fin true 3 (negsuc 0)) ≡ negsuc 1)
    × (nearest_value (fin false 2047 (negsuc 0)) ≡ pos 1023)
    × (nearest_value (inf true) ≡ negsuc 1022)
unfolding nearest_value limited max_ℤ min_ℤ
halves_to_even = (refl, refl, refl, refl, refl, refl)

-- the number of a call's reply for a list of one value
abbrev number : Setting → List Float → ℕ
number s samples = number_of (sample_values s samples (pos 7 ∷ [])).reply

-- -0 is in range, and 1,024; the float after it is not. Silent asks for a scale in range and for finite samples, and 5 stands before 17
which_number :
    (number (setting one (Steady (fin true 0 (pos 0)))) (one ∷ []) ≡ 0)
    × (number (setting (of_bits binary32 1149239296) Silent) (one ∷ []) ≡ 0)
    × (number (setting (of_bits binary32 1149239297) Silent) (one ∷ []) ≡ 17)
    × (number (setting nan Silent) (inf false ∷ []) ≡ 17)
    × (number (setting one Silent) (inf false ∷ []) ≡ 18)
    × (number (setting one (Steady (fin true 1 (pos 0)))) [] ≡ 5)
unfolding sample_values sample_checks setting_fits channel_in_range in_range samples_fit every le first_of check ◌then◌ number_of told of_bits
which_number = (refl, refl, refl, refl, refl, refl)
