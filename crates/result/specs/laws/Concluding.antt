-- What concluding leaves: a refusal leaves the lists as they were, and behind the checks of lengths and pattern only 13 can come.
-- Assumes nothing.
use Rattle.std.specs.Prelude.{◌≡◌, true, ◌&&◌, List, map, ℕ, ℤ, pos, length, Ok, Err}
use Rattle.std.proofs.Common.{sym, ap, ◌∙◌, eq-eqb, eqb-true}
use Rattle.lists.specs.laws.Tests.{and_both, and_true}
use Rattle.refusal.specs.declared.Refusal.{Refusal}
use Rattle.refusal.specs.declared.Refusal.TheVariants.{ForcedPosition}
use Rattle.refusal.specs.Refusals.{Reply, check, first_of, after}
use Rattle.refusal.specs.laws.Checks.{check_is_done, done_then, then_done}
use Rattle.frame.specs.Interleaver.{deinterleave}
use Rattle.soft.specs.Soft.{decided}
use Rattle.result.specs.Result.{ConcludeCall, ConcludeLent, ConcludeResult, conclude_lists_fit, conclude_pattern, all_free, conclude_checks, conclude_settled, conclude}
use Rattle.result.specs.Result.{conclude_result_of}

module _ (c : ConcludeCall) (l : ConcludeLent) where
  pub concluded_not : {r : Refusal} → Err r ≡ first_of (conclude_checks c l) → record { reply = Err r; lists = l } ≡ conclude c l
  unfolding conclude conclude_settled after
  concluded_not e = rw (sym e)

  pub concluded_done : (Ok tt) ≡ first_of (conclude_checks c l) → conclude_settled (Ok tt) c l ≡ conclude c l
  unfolding conclude
  concluded_done e = rw (sym e)

-- what is left where lengths and pattern pass
pub record Concluded (c : ConcludeCall) (l : ConcludeLent) (r : Reply) (bits : List ℕ) (margins extrinsics : List ℤ) : Type 0 where
  pub reply : r ≡ check (all_free c.marks1 && all_free c.marks2) ForcedPosition
  pub bits_are : bits ≡ after r (deinterleave 0 c.pattern (map decided c.margins)) l.bits
  pub margins_are : margins ≡ after r (deinterleave (pos 0) c.pattern c.margins) l.margins
  pub extrinsics_are : extrinsics ≡ after r (deinterleave (pos 0) c.pattern c.extrinsics) l.extrinsics

pub concluded : (c : ConcludeCall) (l : ConcludeLent) {r : Reply} {bits : List ℕ} {margins extrinsics : List ℤ} →
    conclude_lists_fit c l ≡ true → conclude_pattern c ≡ true → conclude_result_of r bits margins extrinsics ≡ conclude c l →
    Concluded c l r bits margins extrinsics
unfolding conclude conclude_settled conclude_checks first_of
concluded c l {r} fits permutes e =
    let told : r ≡ first_of (conclude_checks c l) = ap (λ (x : ConcludeResult). x.reply) e in
    record {
      reply = told ∙ done_then ((check_is_done _ _).1 fits) ∙ done_then ((check_is_done _ _).1 permutes) ∙ then_done _;
      bits_are = rw told (ap (λ (x : ConcludeResult). x.lists.bits) e);
      margins_are = rw told (ap (λ (x : ConcludeResult). x.lists.margins) e);
      extrinsics_are = rw told (ap (λ (x : ConcludeResult). x.lists.extrinsics) e);
    }

-- lists of the pattern's length fit
pub lengths_fit : (c : ConcludeCall) (l : ConcludeLent) →
    length c.marks1 ≡ length c.pattern → length c.marks2 ≡ length c.pattern →
    length c.margins ≡ length c.pattern → length c.extrinsics ≡ length c.pattern →
    length l.bits ≡ length c.pattern → length l.margins ≡ length c.pattern → length l.extrinsics ≡ length c.pattern →
    conclude_lists_fit c l ≡ true
unfolding conclude_lists_fit
lengths_fit c l a b d e f g h =
    and_true
    (and_true (and_true (and_true (eq-eqb _ _ a) (eq-eqb _ _ b)) (eq-eqb _ _ d)) (eq-eqb _ _ e))
    (and_true (and_true (eq-eqb _ _ f) (eq-eqb _ _ g)) (eq-eqb _ _ h))

-- and lists that fit have it
pub record Lengths (c : ConcludeCall) (l : ConcludeLent) : Type 0 where
  pub marks1 : length c.marks1 ≡ length c.pattern
  pub marks2 : length c.marks2 ≡ length c.pattern
  pub said_margins : length c.margins ≡ length c.pattern
  pub said_extrinsics : length c.extrinsics ≡ length c.pattern
  pub bits : length l.bits ≡ length c.pattern
  pub margins : length l.margins ≡ length c.pattern
  pub extrinsics : length l.extrinsics ≡ length c.pattern

pub lengths : (c : ConcludeCall) (l : ConcludeLent) → conclude_lists_fit c l ≡ true → Lengths c l
unfolding conclude_lists_fit
lengths c l e =
    let (passes, results) = and_both _ _ e in
    let (to-margins, said_extrinsics) = and_both _ _ passes in
    let (marks, said_margins) = and_both _ _ to-margins in
    let (marks1, marks2) = and_both _ _ marks in
    let (to_bits, extrinsics) = and_both _ _ results in
    let (bits, margins) = and_both _ _ to_bits in
    record {
      marks1 = eqb-true _ _ marks1;
      marks2 = eqb-true _ _ marks2;
      said_margins = eqb-true _ _ said_margins;
      said_extrinsics = eqb-true _ _ said_extrinsics;
      bits = eqb-true _ _ bits;
      margins = eqb-true _ _ margins;
      extrinsics = eqb-true _ _ extrinsics;
    }
