-- What the builder of a pattern goes by once its sizes are checked: a call that is refused, and one that is not.
-- Assumes nothing.
use Rattle.lists.specs.laws.Stores.{filled_none, filled_more, filled_all}
use Rattle.refusal.specs.laws.Passing.{check_passes, check_alone}
use Rattle.std.specs.Prelude.{◌≡◌, List, ℕ, length, true, false, Ok, Err}
use Rattle.std.specs.Result.{IsErrAnd}
use Rattle.std.proofs.Common.{sym}
use Rattle.refusal.specs.declared.Refusal.{Refusal}
use Rattle.refusal.specs.declared.Refusal.TheVariants.{Pattern}
use Rattle.refusal.specs.Refusals.{Reply, first_of}
use Rattle.refusal.specs.laws.Passing.{handed_on}
use Rattle.frame.specs.Interleaver.{permutes}
use Rattle.polynomial.specs.Polynomial.{PatternCall, entries, size_checks, pattern_result_of, pattern_built}
use Rattle.polynomial.specs.laws.Making.{Fitting, fitting, built_refused, built_no_pattern, built_done}

module _ (c : PatternCall) (pattern : List ℕ) where
  pub refused : {e : Refusal} {x : Reply} → Err e ≡ first_of (size_checks c (length pattern)) → IsErrAnd x (λ y. y ≡ e) → pattern_result_of x pattern ≡ pattern_built c pattern
  refused h is = rw (handed_on is) (built_refused c pattern _ (sym h))

  module _ {u : Unit {0}} (h : Ok u ≡ first_of (size_checks c (length pattern))) where
    pub passed : Fitting c pattern
    passed = fitting c pattern (sym h)

    pub no_pattern : false ≡ permutes c.bits (entries c) → pattern_result_of (Err Pattern) pattern ≡ pattern_built c pattern
    no_pattern e = built_no_pattern c pattern (sym h) (sym e)

    pub done : {made : List ℕ} → true ≡ permutes c.bits (entries c) → made ≡ entries c → pattern_result_of (Ok tt) made ≡ pattern_built c pattern
    done e is = built_done c pattern (sym h) (sym e) is

-- a list filled from its start
pub ruleset filling = (filled_none, filled_more, filled_all)

-- checks one after another
pub ruleset in_turn = (check_passes, check_alone)
