-- What writing the values goes by once the call is checked: a call that is refused, and one that is not.
-- Assumes nothing.
use Rattle.refusal.specs.laws.Passing.{check_passes, check_alone}
use Rattle.std.specs.Prelude.{◌≡◌, List, Float, ℤ, length, map, Ok, Err}
use Rattle.std.specs.Result.{IsErrAnd}
use Rattle.std.proofs.Common.{sym}
use Rattle.refusal.specs.declared.Refusal.{Refusal}
use Rattle.refusal.specs.Refusals.{Reply, first_of}
use Rattle.refusal.specs.laws.Passing.{handed_on}
use Rattle.samples.specs.declared.Setting.{Setting}
use Rattle.samples.specs.Samples.{◌*ᶠ◌, nearest_value, sample_checks, sample_result_of, sample_values}
use Rattle.samples.specs.laws.Settings.{factor}
use Rattle.samples.specs.laws.Calls.{Ready}
use Rattle.samples.proofs.laws.Calls

module _ (s : Setting) (samples : List Float) (values : List ℤ) where
  pub refused : {e : Refusal} {x : Reply} → Err e ≡ first_of (sample_checks s samples (length values)) → IsErrAnd x (λ y. y ≡ e) →
      sample_result_of x values ≡ sample_values s samples values
  refused h is = rw (handed_on is) (Calls.refused s samples values _ (sym h))

  module _ {u : Unit {0}} (h : Ok u ≡ first_of (sample_checks s samples (length values))) {f : Float} (is : f ≡ factor s.channel) where
    pub ready : Ready f s.scale samples values
    ready = rw is (Calls.ready s samples values (sym h))

    pub done : {made : List ℤ} → made ≡ map (λ x. nearest_value ((f *ᶠ s.scale) *ᶠ x)) samples → sample_result_of (Ok tt) made ≡ sample_values s samples values
    done e = Calls.done s samples values (sym h) (rw is at e)

-- checks one after another
pub ruleset in_turn = (check_passes, check_alone)
