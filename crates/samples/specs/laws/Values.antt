-- The value of a sample: the opposite sample gives the opposite value, and every value is within the channel's limits.
-- Assumes nothing.
use Rattle.std.specs.Prelude.{◌≡◌, true, false, ◌&&◌, List, [], ◌∷◌, map, ℕ, ◌*◌, Float, ℤ, pos, neg_ℤ}
use Rattle.std.proofs.Math.Path.{refl, ap}
use Rattle.std.proofs.Common.{ap₂, ◌∙◌, arith}
use Rattle.std.proofs.Math.Option.{Option, none, some, Option-elim}
use Rattle.std.specs.Float.{nan, inf, fin}
use Rattle.std.specs.Float.Ieee.{up, down, neg}
use Rattle.std.specs.Float.Ieee.Nearest.{closest}
use Rattle.std.proofs.lemmas.List.{length-map}
use Rattle.integers.specs.laws.Bounds.{Within}
use Rattle.integers.specs.laws.Laws.{limited_within, inside_is}
use Rattle.integers.specs.laws.Linear.{ints}
use Rattle.lists.specs.Lists.{every}
use Rattle.lists.specs.laws.Tests.{and_true}
use Rattle.refusal.specs.Refusals.{first_of}
use Rattle.trellis.specs.Limits.{channel_limit, channel_fits}
use Rattle.samples.specs.declared.Setting.{Setting}
use Rattle.samples.specs.Samples.{◌*ᶠ◌, reliability, product, with_sign, nearest_value, sample_value, samples_fit, sample_checks}
use Rattle.samples.specs.laws.Products.{finite_opposite, product_opposite}
use Rattle.samples.specs.laws.Rounding.{value_opposite}

-- ---- the opposite

pub sample_opposite : (s : Setting) (x : Float) → sample_value s (neg x) ≡ neg_ℤ (sample_value s x)
unfolding sample_value product
sample_opposite s x = go (reliability s.channel)
  where
    by : Float → Option Float → ℤ
    by y r = Option-elim (Option-elim r none (λ r. some ((r *ᶠ s.scale) *ᶠ y))) (pos 0) nearest_value

    go : (r : Option Float) → by (neg x) r ≡ neg_ℤ (by x r)
    go none = unfold Option-elim in refl
    go (some r) = unfold Option-elim in ap nearest_value (product_opposite (r *ᶠ s.scale) x) ∙ value_opposite ((r *ᶠ s.scale) *ᶠ x)

pub values_opposite : (s : Setting) (xs : List Float) → map (sample_value s) (map neg xs) ≡ map neg_ℤ (map (sample_value s) xs)
values_opposite s [] = refl
values_opposite s (x ∷ xs) = ap₂ (λ (v : ℤ) (vs : List ℤ). v ∷ vs) (sample_opposite s x) (values_opposite s xs)

fit_opposite : (xs : List Float) → samples_fit (map neg xs) ≡ samples_fit xs
unfolding samples_fit every
fit_opposite [] = refl
fit_opposite (x ∷ xs) = ap₂ ◌&&◌ (finite_opposite x) (fit_opposite xs)

-- the checks of both are the same
pub reply_opposite : (s : Setting) (xs : List Float) (long : ℕ) → first_of (sample_checks s (map neg xs) long) ≡ first_of (sample_checks s xs long)
unfolding sample_checks
reply_opposite s xs long = rw (length-map xs neg, fit_opposite xs)

-- ---- the limits

value_within : (x : Float) → Within channel_limit (nearest_value x)
unfolding nearest_value
value_within nan = simp ints (omega arith)
value_within (inf true) = simp ints (omega arith)
value_within (inf false) = simp ints (omega arith)
value_within (fin s m e) = limited_within channel_limit (with_sign s (closest (m * up e) (down e)))

sample_within : (s : Setting) (x : Float) → Within channel_limit (sample_value s x)
unfolding sample_value
sample_within s x = go (product s x)
  where
    go : (p : Option Float) → Within channel_limit (Option-elim p (pos 0) nearest_value)
    go none = unfold Option-elim in simp ints (omega arith)
    go (some p) = unfold Option-elim in value_within p

pub values_fit : (s : Setting) (xs : List Float) → channel_fits (map (sample_value s) xs) ≡ true
unfolding channel_fits every
values_fit s [] = refl
values_fit s (x ∷ xs) = and_true ((inside_is channel_limit (sample_value s x)).1 (sample_within s x)) (values_fit s xs)
