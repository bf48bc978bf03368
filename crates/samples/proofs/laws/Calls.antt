-- A call: a list filled from another, what the loop over the samples relies on, and the whole result, refused or done.
-- Assumes nothing.
use Rattle.std.specs.Prelude.{◌≡◌, ◌<◌, Float, ℤ, length, get_or, Ok, Err}
use Rattle.std.proofs.Math.Path.{refl, ap₂}
use Rattle.std.proofs.Common.{sym, ◌∙◌, arith, eqb-true, ext_get_or}
use Rattle.std.proofs.Math.Bool.{true}
use mathlib.Core.List.{List, [], ◌∷◌, map}
use Rattle.std.specs.Float.Ieee.Scale.{finite}
use Rattle.std.proofs.lemmas.List.{length-map}
use Rattle.lists.specs.Lists.{every}
use Rattle.lists.specs.laws.Listed.{map_at}
use Rattle.lists.specs.laws.Stores.{Filled}
use Rattle.lists.specs.laws.Tests.{and_both}
use Rattle.refusal.specs.declared.Refusal.{Refusal}
use Rattle.refusal.specs.Refusals.{first_of, after}
use Rattle.refusal.specs.laws.InTurn.{Each, each_holds}
use Rattle.samples.specs.declared.Setting.{Setting}
use Rattle.samples.specs.Samples.{◌*ᶠ◌, nearest_value, sample_value, setting_fits, samples_fit, sample_checks, sample_result_of, sample_values}
use Rattle.samples.specs.laws.Settings.{factor, gain_finite, value_by_factor}
use Rattle.samples.specs.laws.Calls.{Ready}

-- ---- a list filled from another, entry by entry

pub filled_map : {A B : Type 0} (f : A → B) (a : A) (d : B) (xs : List A) (ys : List B) → length xs ≡ length ys →
    Filled d (λ i. f (get_or xs i a)) ys (length xs) → ys ≡ map f xs
filled_map f a d xs ys e h =
    ext_get_or d ys (map f xs) (sym e ∙ sym (length-map xs f)) (λ i l. let k : i < length xs = omega arith in h.entry i k ∙ sym (map_at f xs i a d k))

-- ---- a call: refused, or done

module _ (s : Setting) (samples : List Float) (values : List ℤ) where
  pub refused : (r : Refusal) → first_of (sample_checks s samples (length values)) ≡ Err r → sample_result_of (Err r) values ≡ sample_values s samples values
  unfolding sample_values after
  refused r e = rw e

  module _ (passed : first_of (sample_checks s samples (length values)) ≡ Ok tt) where
    pub accepted : (length samples ≡ length values) × (setting_fits s ≡ true) × (every finite samples ≡ true)
    unfolding sample_checks Each samples_fit
    accepted =
        let (long, (setting, (all, end))) = each_holds (sample_checks s samples (length values)) passed in
        (eqb-true _ _ long, setting, all)

    pub ready : Ready (factor s.channel) s.scale samples values
    ready =
        let (long, setting, all) = accepted in
        record { finite_gain = gain_finite s setting; finite_samples = all; same_length = long }

    pub done : {made : List ℤ} → made ≡ map (λ x. nearest_value ((factor s.channel *ᶠ s.scale) *ᶠ x)) samples →
        sample_result_of (Ok tt) made ≡ sample_values s samples values
    unfolding sample_values after
    done e = rw (passed, e, map_same samples ready.finite_samples)
      where
        map_same : (xs : List Float) → every finite xs ≡ true → map (λ x. nearest_value ((factor s.channel *ᶠ s.scale) *ᶠ x)) xs ≡ map (sample_value s) xs
        map_same [] h = refl
        map_same (x ∷ xs) h =
            let (here, rest) = and_both (finite x) (every finite xs) (unfold every in h) in
            ap₂ (λ (v : ℤ) (vs : List ℤ). v ∷ vs) (value_by_factor s x accepted.1 here) (map_same xs rest)
