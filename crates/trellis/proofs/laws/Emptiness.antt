-- Whether a class is empty is a fact of the table, the length and the end alone: no value takes part. So it is with the kind of an outcome,
-- which is nothing where there is no path, forced where one class is empty, and else free.
-- Assumes nothing.
use Rattle.std.specs.Prelude.{◌≡◌, ◌↔◌, Bool, ◌&&◌, ◌||◌, ℤ, ◌-ℤ◌}
use Rattle.std.proofs.Math.Path.{refl}
use Rattle.std.proofs.Common.{sym, arith}
use Rattle.std.proofs.Math.Logic.Iff
use Rattle.std.proofs.Math.Bool.{true, false}
use Rattle.std.proofs.lemmas.Bool.{false≢true}
use mathlib.Core.List.{List, [], ◌∷◌, cons≢nil}
use Rattle.std.proofs.Math.Option.{Option, none, some, some-ne-none}
use Prim.Native.Nat.{ℕ, zero, suc, ◌-◌, ◌<◌}
use Rattle.std.proofs.Math.Dec.{eqb}
use Rattle.std.proofs.Math.ListN.{get_or}
use Rattle.integers.specs.Integers.{half}
use Rattle.lists.specs.Lists.{is_empty}
use Rattle.lists.specs.laws.Keep.{is_empty_by_tests}
use Rattle.trellis.specs.declared.End.{End}
use Rattle.trellis.specs.declared.Outcome.TheVariants.{Free, Forced}
use Rattle.trellis.specs.Table.{Table}
use Rattle.trellis.specs.Path.{Values, TrellisPath, paths, class}
use Rattle.trellis.specs.Outcome.{best, outcome_of, outcome, pathless, forced}
use Rattle.trellis.proofs.laws.Listing.{paths_are}
use Rattle.trellis.proofs.laws.Greatest.{best_is_none}

-- ---- tests for nothing

-- two statements neither of which can be
neither : {P Q : Type 0} → (P → ◌≡◌ {A = ℕ} 0 1) → (Q → ◌≡◌ {A = ℕ} 0 1) → P ↔ Q
neither f g = (λ p. absurd (one (f p)), λ q. absurd (one (g q)))
  where
    one : ◌≡◌ {A = ℕ} 0 1 → ⊥
    one e = omega arith

abbrev is_none : Option ℤ → Bool
is_none none = true
is_none (some a) = false

agree : {A : Type 0} (x : Option ℤ) (ys : List A) → (x ≡ none) ↔ (ys ≡ []) → is_none x ≡ is_empty ys
unfolding is_empty
agree none [] h = refl
agree none (y ∷ ys) h = absurd (cons≢nil (h.0 refl))
agree (some a) [] h = absurd (some-ne-none a (h.1 refl))
agree (some a) (y ∷ ys) h = refl

-- ---- paths and classes

module _ (t : Table) (end : End) (n k : ℕ) where
  -- a path has bit 0 or bit 1 at every position
  pub pathless_by_classes : pathless t end n ≡ (is_empty (class t end n k 0) && is_empty (class t end n k 1))
  unfolding pathless class
  pathless_by_classes =
      is_empty_by_tests (λ p. eqb (at p) 0) (λ p. eqb (at p) 1) (paths t end n) (λ p m. either (at p) (((paths_are t end n p).0 m).bits.bit k))
    where
      at : TrellisPath → ℕ
      at p = get_or p.bits k 0

      either : (b : ℕ) → b < 2 → (eqb b 0 || eqb b 1) ≡ true
      either zero h = refl
      either (suc zero) h = refl
      either (suc (suc b)) h = absurd (omega arith)

  pub unforced_has_path : forced t end n k ≡ false → pathless t end n ≡ false
  unfolding forced
  unforced_has_path = rw pathless_by_classes (go (is_empty (class t end n k 0)) (is_empty (class t end n k 1)))
    where
      go : (c d : Bool) → (c || d) ≡ false → (c && d) ≡ false
      go true d e = absurd (false≢true (sym e))
      go false d e = refl

  pub best_none_whatever : (v u : Values) (b : ℕ) → (best t v end n k b ≡ none) ↔ (best t u end n k b ≡ none)
  best_none_whatever v u b = Iff.trans (best_is_none t v end n k b) (Iff.symm (best_is_none t u end n k b))

  -- ---- the kind of an outcome

  module _ (v : Values) where
    best_none : (b : ℕ) → is_none (best t v end n k b) ≡ is_empty (class t end n k b)
    best_none b = agree (best t v end n k b) (class t end n k b) (best_is_none t v end n k b)

    pub outcome_is_none : (outcome t v end n k ≡ none) ↔ (pathless t end n ≡ true)
    unfolding outcome outcome_of
    outcome_is_none = rw (pathless_by_classes, ← best_none 0, ← best_none 1) (go (best t v end n k 0) (best t v end n k 1))
      where
        go : (x y : Option ℤ) → (outcome_of x y ≡ none) ↔ ((is_none x && is_none y) ≡ true)
        go none none = (λ e. refl, λ e. refl)
        go none (some b) = neither (λ e. cc) (λ e. cc)
        go (some a) none = neither (λ e. cc) (λ e. cc)
        go (some a) (some b) = neither (λ e. cc) (λ e. cc)

    pub outcome_is_free : ((m : ℤ) × (outcome t v end n k ≡ some (Free m))) ↔ (forced t end n k ≡ false)
    unfolding outcome outcome_of forced
    outcome_is_free = rw (← best_none 0, ← best_none 1) (go (best t v end n k 0) (best t v end n k 1))
      where
        go : (x y : Option ℤ) → ((m : ℤ) × (outcome_of x y ≡ some (Free m))) ↔ ((is_none x || is_none y) ≡ false)
        go none none = neither (λ e. cc) (λ e. cc)
        go none (some b) = neither (λ e. cc) (λ e. cc)
        go (some a) none = neither (λ e. cc) (λ e. cc)
        go (some a) (some b) = (λ e. refl, λ e. (half (b -ℤ a), refl))

    pub outcome_is_forced :
        (b : ℕ) → b < 2 → (outcome t v end n k ≡ some (Forced b)) ↔ ((is_empty (class t end n k b) ≡ false) × (is_empty (class t end n k (1 - b)) ≡ true))
    unfolding outcome outcome_of
    outcome_is_forced zero h = rw (← best_none 0, ← best_none 1) (go (best t v end n k 0) (best t v end n k 1))
      where
        go : (x y : Option ℤ) → (outcome_of x y ≡ some (Forced 0)) ↔ ((is_none x ≡ false) × (is_none y ≡ true))
        go none none = neither (λ e. cc) (λ e. cc)
        go none (some b) = neither (λ e. cc) (λ e. cc)
        go (some a) none = (λ e. (refl, refl), λ e. refl)
        go (some a) (some b) = neither (λ e. cc) (λ e. cc)
    outcome_is_forced (suc zero) h = rw (← best_none 0, ← best_none 1) (go (best t v end n k 0) (best t v end n k 1))
      where
        go : (x y : Option ℤ) → (outcome_of x y ≡ some (Forced 1)) ↔ ((is_none y ≡ false) × (is_none x ≡ true))
        go none none = neither (λ e. cc) (λ e. cc)
        go none (some b) = (λ e. (refl, refl), λ e. refl)
        go (some a) none = neither (λ e. cc) (λ e. cc)
        go (some a) (some b) = neither (λ e. cc) (λ e. cc)
    outcome_is_forced (suc (suc b)) h = absurd (omega arith)
