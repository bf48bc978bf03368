-- What the builder of a table goes by once its checks are made: a call that is refused, and one that is not.
-- Assumes nothing.
use Rattle.std.specs.Prelude.{◌≡◌, List, ℕ, ◌*◌, ◌^◌, length, min, Ok, Err}
use Rattle.std.specs.Result.{IsErrAnd}
use Rattle.std.proofs.Common.{sym}
use Rattle.refusal.specs.declared.Refusal.{Refusal}
use Rattle.refusal.specs.Refusals.{Reply, first_of}
use Rattle.refusal.specs.laws.Passing.{handed_on}
use Rattle.taps.specs.Build.{TapsCall, TapsLent, taps_result_of, taps_checks, taps_built}
use Rattle.taps.specs.laws.Filling.{FewStates, BuiltBy, buildable, built_refused, built_done, counted_states, few_states}

module _ (c : TapsCall) (l : TapsLent) where
  pub refused : {e : Refusal} {x : Reply} → Err e ≡ first_of (taps_checks c l) → IsErrAnd x (λ y. y ≡ e) → taps_result_of x l.next l.words ≡ taps_built c l
  refused h is = rw (handed_on is) (built_refused c l _ (sym h))

  -- of n states, counted by the memory
  pub record Passed (n : ℕ) : Type 0 where
    pub few : FewStates n
    pub next_long : length l.next ≡ 2 * n
    pub words_long : length l.words ≡ 2 * n
    pub done : (next words : List ℕ) → BuiltBy n c.feedback c.parity next words → taps_result_of (Ok tt) next words ≡ taps_built c l

  pub passed : {u : Unit {0}} {n : ℕ} → Ok u ≡ first_of (taps_checks c l) → n ≡ 2 ^ min c.memory 4 → Passed n
  passed h counted =
      let fits = buildable c l (sym h) in
      rw (counted_states c.memory fits.memory counted) record {
        few = few_states c.memory fits.memory;
        next_long = fits.next_long;
        words_long = fits.words_long;
        done = λ next words built. built_done c l (sym h) built;
      }
