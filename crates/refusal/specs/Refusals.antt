-- Refusals: the number and the place of each, checks in turn and the first that fails, and what a reply leaves of the lists that were lent
-- (document 01, "Refused frames and calls"; document 02 adds 15, which stands after 2, 17 and 18, which stand straight before 6, and 16,
-- which stands after 6).
-- Assumes nothing.
use Rattle.std.specs.Prelude.{Bool, true, false, cond, ◌||◌, List, [], ◌∷◌, ℕ, eqb, ℤ, pos, length, replicate, Result, Ok, Err}
use Rattle.refusal.specs.declared.Refusal.{Refusal}
use Rattle.refusal.specs.declared.Refusal.TheVariants.{Text, Shape, Polynomial, Branch, Length, Lists, Setting, Sample, Value, ValueInLine, Apriori, Bit, Pattern, Mask, Iterations, Coder, NoPath, ForcedPosition, NoTail}

-- a reply: done, or refused
abbrev pub Reply : Type 0
Reply = Result (Unit {0}) Refusal

-- a refusal as it is told: its number, and where the fault sits. For a call that is the index in the list lent, and for a sheet the line
pub record Told : Type 0 where
  pub number : ℕ
  pub place : ℕ

-- the place is 0 for every number but 1, 6 and 16
abbrev plain : ℕ → Told
plain n = record { number = n; place = 0 }

unfoldable pub told : Refusal → Told
told (Text line) = record { number = 1; place = line }
told Shape = plain 2
told Polynomial = plain 15
told Branch = plain 3
told Length = plain 4
told Lists = plain 5
told Setting = plain 17
told Sample = plain 18
told (Value index) = record { number = 6; place = index }
told (ValueInLine line) = record { number = 6; place = line }
told (Apriori index) = record { number = 16; place = index }
told Bit = plain 7
told Pattern = plain 8
told Mask = plain 9
told Iterations = plain 10
told Coder = plain 11
told NoPath = plain 12
told ForcedPosition = plain 13
told NoTail = plain 14

-- the number of a reply, 0 where the call is done
unfoldable pub number_of : Reply → ℕ
number_of (Ok tt) = 0
number_of (Err r) = (told r).number

-- the place that a reply names, 0 where the call is done
unfoldable pub place_of : Reply → ℕ
place_of (Ok tt) = 0
place_of (Err r) = (told r).place

-- a check: refused by r unless the test holds
unfoldable pub check : Bool → Refusal → Reply
check true r = Ok tt
check false r = Err r

-- checks in turn: the first that refuses decides
infixr 20 ◌then◌
unfoldable pub ◌then◌ : Reply → Reply → Reply
(Ok tt) then y = y
(Err r) then y = Err r

-- a check of an entry: its refusal, and the test that keeps it off
pub record Check : Type 0 where
  pub refusal : Refusal
  pub holds : Bool

infix 75 ◌unless◌
abbrev pub ◌unless◌ : Refusal → Bool → Check
r unless b = record { refusal = r; holds = b }

-- the reply to a list of checks, in their order: the refusal of the first that fails, or done
unfoldable pub first_of : List Check → Reply
first_of [] = Ok tt
first_of (c ∷ cs) = check c.holds c.refusal then first_of cs

-- a result list: the new one where the call is done, and as it was where it is refused
unfoldable pub after : {A : Type 0} → Reply → A → A → A
after (Ok tt) new old = new
after (Err r) new old = old

-- the working list: all zeros after success, 12 and 13, and as it was after the others
unfoldable pub cleared : Reply → List ℤ → List ℤ
cleared (Ok tt) work = replicate (length work) (pos 0)
cleared (Err r) work = cond (eqb (told r).number 12 || eqb (told r).number 13) (replicate (length work) (pos 0)) work
