-- Checks in turn as code goes through them with `?`: one that fails hands its refusal on, and one that passes leaves the reply to the rest.
-- Assumes nothing.
use Rattle.std.specs.Prelude.{◌≡◌, Bool, true, List, [], ◌∷◌, ◌++◌, Ok, Err}
use Rattle.std.specs.Result.{IsErrAnd}
use Rattle.std.proofs.Common.{sym, ap, ◌∙◌}
use Rattle.refusal.specs.declared.Refusal.{Refusal}
use Rattle.refusal.specs.Refusals.{Reply, Check, check, ◌then◌, first_of}
use Rattle.refusal.specs.laws.Checks.{check_is_done, done_then, refused_then, then_done}
use Rattle.refusal.specs.laws.InTurn.{first_passes, first_refuses}

-- what `?` hands on is the refusal
pub handed_on : {x : Reply} {e : Refusal} → IsErrAnd x (λ y. y ≡ e) → x ≡ Err e
handed_on {x = Ok u} is = absurd is
handed_on {x = Err y} is = ap Err is

module _ (d : Check) (cs : List Check) where
  pub check_refuses : {e : Refusal} {x : Reply} → Err e ≡ check d.holds d.refusal → IsErrAnd x (λ y. y ≡ e) → x ≡ first_of (d ∷ cs)
  unfolding first_of
  check_refuses h is = handed_on is ∙ sym (refused_then (first_of cs) (sym h))

  pub check_passes : {u : Unit {0}} {x : Reply} → Ok u ≡ check d.holds d.refusal → x ≡ first_of cs → x ≡ first_of (d ∷ cs)
  unfolding first_of
  check_passes h e = e ∙ sym (done_then (sym h))

-- the last check
pub check_alone : (d : Check) {x : Reply} → x ≡ check d.holds d.refusal → x ≡ first_of (d ∷ [])
unfolding first_of
check_alone d e = e ∙ sym (then_done (check d.holds d.refusal))

-- what a check that passes has shown
pub check_shows : {b : Bool} (r : Refusal) {u : Unit {0}} → Ok u ≡ check b r → b ≡ true
check_shows {b = b} r h = (check_is_done b r).0 (sym h)

-- several checks, answered as one
module _ (xs ys : List Check) where
  pub part_refuses : {e : Refusal} {x : Reply} → Err e ≡ first_of xs → IsErrAnd x (λ y. y ≡ e) → x ≡ first_of (xs ++ ys)
  part_refuses h is = handed_on is ∙ sym (first_refuses xs ys (sym h))

  pub part_passes : {u : Unit {0}} {x : Reply} → Ok u ≡ first_of xs → x ≡ first_of ys → x ≡ first_of (xs ++ ys)
  part_passes h e = e ∙ sym (first_passes xs ys (sym h))
