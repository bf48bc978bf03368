-- What a reply can be, by a test on its refusal. What replies leave: refusals other than 12 and 13 leave the working list as it was, and a result list is the
-- new one after success alone.
-- Assumes nothing.
use Rattle.std.specs.Prelude.{◌≡◌, ◌≢◌, Bool, not, ◌||◌, List, ℕ, eqb, ℤ, Ok, Err}
use Rattle.std.proofs.Math.Path.{refl}
use Rattle.std.proofs.Common.{sym, arith}
use Rattle.std.proofs.Math.Bool.{true, false}
use Rattle.std.proofs.lemmas.Bool.{false≢true, eqb-false, not-true}
use Rattle.refusal.specs.declared.Refusal.{Refusal}
use Rattle.refusal.specs.Refusals.{Reply, told, number_of, check, ◌then◌, after, cleared}

-- ---- done, or a refusal that passes a test

module _ (f : Refusal → Bool) where
  unfoldable passing : Reply → Bool
  passing (Ok tt) = true
  passing (Err r) = f r

  pub record Gives (x : Reply) : Type 0 where
    gives : passing x ≡ true

module _ {f : Refusal → Bool} where
  pub gives_done : Gives f (Ok tt)
  unfolding passing
  gives_done = record { gives = refl }

  pub gives_check : (b : Bool) (r : Refusal) → f r ≡ true → Gives f (check b r)
  unfolding passing check
  gives_check true r e = record { gives = refl }
  gives_check false r e = record { gives = e }

  pub gives_then : {x y : Reply} → Gives f x → Gives f y → Gives f (x then y)
  gives_then {x} {y} e g = go x e
    where
      go : (x : Reply) → Gives f x → Gives f (x then y)
      go (Ok tt) e = unfold ◌then◌ in g
      go (Err r) e = unfold ◌then◌ in e

  pub gives_refusal : {r : Refusal} → Gives f (Err r) → f r ≡ true
  unfolding passing
  gives_refusal e = e.gives

-- a refusal by another number than n, and a chain of such
unfoldable pub other : ℕ → Refusal → Bool
other n r = not (eqb (told r).number n)

pub other_is_not : (r : Refusal) → other (told r).number r ≡ true → ⊥
unfolding other
other_is_not r e = eqb-false (told r).number (told r).number (not-true (eqb (told r).number (told r).number) e) refl

pub never_told : (n : ℕ) {x : Reply} → n ≢ 0 → Gives (other n) x → number_of x ≢ n
unfolding passing other number_of
never_told n {x} some e = go x e
  where
    go : (x : Reply) → Gives (other n) x → number_of x ≢ n
    go (Ok tt) e = λ is. some (sym is)
    go (Err r) e = eqb-false (told r).number n (not-true (eqb (told r).number n) e.gives)

-- ---- the working list

-- a refusal other than 12 and 13
unfoldable pub spares : Refusal → Bool
spares r = not (eqb (told r).number 12 || eqb (told r).number 13)

abbrev pub Early : Reply → Type 0
Early x = Gives spares x

neither : (a b : Bool) → not (a || b) ≡ true → (a ≡ false) × (b ≡ false)
neither true b e = absurd (false≢true e)
neither false true e = absurd (false≢true e)
neither false false e = (refl, refl)

pub early_keeps : (r : Refusal) (work : List ℤ) → Early (Err r) → cleared (Err r) work ≡ work
unfolding spares cleared
early_keeps r work e =
    let (not-12, not-13) = neither (eqb (told r).number 12) (eqb (told r).number 13) (gives_refusal e) in
    rw (not-12, not-13)

pub early_never : {x : Reply} → Early x → (number_of x ≢ 12) × (number_of x ≢ 13)
unfolding passing spares number_of
early_never {x} e = go x e
  where
    go : (x : Reply) → Early x → (number_of x ≢ 12) × (number_of x ≢ 13)
    go (Ok tt) e = (λ is. omega arith, λ is. omega arith)
    go (Err r) e =
        let (not-12, not-13) = neither (eqb (told r).number 12) (eqb (told r).number 13) e.gives in
        (eqb-false (told r).number 12 not-12, eqb-false (told r).number 13 not-13)

-- ---- lists after a reply

module _ {A : Type 0} where
  pub after_done : {r : Reply} → r ≡ Ok tt → (new old : A) → after r new old ≡ new
  unfolding after
  after_done e new old = rw e

  pub after_refusal : {r : Reply} → (r ≡ Ok tt → ⊥) → (new old : A) → after r new old ≡ old
  unfolding after
  after_refusal {r} h new old = go r h
    where
      go : (r : Reply) → (r ≡ Ok tt → ⊥) → after r new old ≡ old
      go (Ok tt) h = absurd (h refl)
      go (Err r) h = refl
