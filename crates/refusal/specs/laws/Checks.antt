-- Laws of a check and of replies in turn: when they are done, and which refusal decides. The numbers of refusals are small.
-- Assumes nothing.
use Rattle.std.specs.Prelude.{◌≡◌, refl, ◌↔◌, Bool, true, false, ℕ, ◌≤◌, Ok, Err}
use Rattle.std.proofs.Common.{sym, ◌∙◌, arith}
use Rattle.std.proofs.lemmas.Bool.{false≢true}
use Rattle.refusal.specs.declared.Refusal.{Refusal}
use Rattle.refusal.specs.declared.Refusal.TheVariants.{Text, Shape, Polynomial, Branch, Length, Lists, Setting, Sample, Value, ValueInLine, Apriori, Bit, Pattern, Mask, Iterations, Coder, NoPath, ForcedPosition, NoTail}
use Rattle.refusal.specs.Refusals.{Reply, told, check, ◌then◌}

pub refused_is_not_done : {r : Refusal} → ◌≡◌ {A = Reply} (Err r) (Ok tt) → ⊥
refused_is_not_done e = let z : ◌≡◌ {A = ℕ} 0 1 = cc in omega arith

-- ---- done

-- a check is done exactly where its test passes
pub check_is_done : (b : Bool) (r : Refusal) → (check b r ≡ Ok tt) ↔ (b ≡ true)
unfolding check
check_is_done true r = (λ e. refl, λ e. refl)
check_is_done false r = (λ e. absurd (refused_is_not_done e), λ e. absurd (false≢true e))

-- two in turn are done exactly where both are
pub then_is_done : (x y : Reply) → ((x then y) ≡ Ok tt) ↔ ((x ≡ Ok tt) × (y ≡ Ok tt))
unfolding ◌then◌
then_is_done (Ok tt) y = (λ e. (refl, e), λ e. e.1)
then_is_done (Err r) y = (λ e. absurd (refused_is_not_done e), λ e. e.0)

-- ---- the first refusal

pub done_then : {x y : Reply} → x ≡ Ok tt → (x then y) ≡ y
unfolding ◌then◌
done_then e = rw e

pub refused_then : {x : Reply} {r : Refusal} (y : Reply) → x ≡ Err r → (x then y) ≡ Err r
unfolding ◌then◌
refused_then y e = rw e

pub then_assoc : (x y z : Reply) → ((x then y) then z) ≡ (x then (y then z))
unfolding ◌then◌
then_assoc (Ok tt) y z = refl
then_assoc (Err r) y z = refl

-- a chain from its front, as code goes through it: a test that fails decides, and one that passes leaves it to the rest
pub fails : {b : Bool} {r : Refusal} → b ≡ false → Err r ≡ check b r
unfolding check
fails e = rw e

pub fails_first : {b : Bool} {r : Refusal} (rest : Reply) → b ≡ false → Err r ≡ (check b r then rest)
fails_first rest e = sym (refused_then rest (sym (fails e)))

pub passes_first : {b : Bool} (r : Refusal) {x rest : Reply} → b ≡ true → x ≡ rest → x ≡ (check b r then rest)
passes_first {b} r e f = f ∙ sym (done_then ((check_is_done b r).1 e))

-- a reply stands where all that is looked at after it is done
pub done_after : (x : Reply) {y : Reply} → y ≡ Ok tt → x ≡ (x then y)
unfolding ◌then◌
done_after (Ok tt) e = sym e
done_after (Err r) e = refl

pub then_done : (x : Reply) → (x then Ok tt) ≡ x
then_done x = sym (done_after x refl)

-- a check made twice is made once, whatever the second would tell
pub check_again : (b : Bool) (r s : Refusal) (rest : Reply) → (check b r then check b s then rest) ≡ (check b r then rest)
unfolding check ◌then◌
check_again true r s rest = refl
check_again false r s rest = refl

-- ---- numbers

-- each fits a byte
pub number_small : (r : Refusal) → (told r).number ≤ 255
unfolding told
number_small (Text line) = omega arith
number_small Shape = omega arith
number_small Polynomial = omega arith
number_small Branch = omega arith
number_small Length = omega arith
number_small Lists = omega arith
number_small Setting = omega arith
number_small Sample = omega arith
number_small (Value index) = omega arith
number_small (ValueInLine line) = omega arith
number_small (Apriori index) = omega arith
number_small Bit = omega arith
number_small Pattern = omega arith
number_small Mask = omega arith
number_small Iterations = omega arith
number_small Coder = omega arith
number_small NoPath = omega arith
number_small ForcedPosition = omega arith
number_small NoTail = omega arith
