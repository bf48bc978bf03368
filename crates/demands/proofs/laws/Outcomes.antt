-- An outcome means what the paths say, and no other outcome does; and what is written of a position is its outcome's.
-- Assumes nothing.
use Rattle.std.specs.Prelude.{◌≡◌, ℤ, pos, ◌*ℤ◌}
use Rattle.std.proofs.Math.Path.{refl, ap, ap₂}
use Rattle.std.proofs.Common.{sym, ◌∙◌, arith}
use Rattle.std.proofs.Math.Option.{Option, none, some, Option-elim}
use Prim.Native.Nat.{ℕ, zero, suc}
use Rattle.integers.specs.laws.Linear.{ints}
use Rattle.integers.specs.laws.Laws.{half_exact}
use Rattle.trellis.specs.declared.End.{End}
use Rattle.trellis.specs.declared.Outcome.{Outcome}
use Rattle.trellis.specs.declared.Outcome.TheVariants.{Free, Forced}
use Rattle.trellis.specs.Table.{Table}
use Rattle.trellis.specs.Path.{Values}
use Rattle.trellis.specs.Outcome.{best, outcome_of, outcome, mark, margin, intrinsic, extrinsic, position_of, position}
use Rattle.trellis.proofs.laws.Greatest.{best_is_some, best_is_none_without_paths}
use Rattle.trellis.proofs.laws.Parity.{best_parity}
use Rattle.demands.specs.Meaning.{IsEmptyClass, IsFree, IsForced, IsNone, Means}

-- two integers with the same double are the same
same_half : {a b c : ℤ} → pos 2 *ℤ a ≡ c → pos 2 *ℤ b ≡ c → a ≡ b
same_half {a} {b} {c} = simp ints (omega arith)

module _ (t : Table) (v : Values) (end : End) (n k : ℕ) where
  empty_class : (b : ℕ) → best t v end n k b ≡ none → IsEmptyClass t end n k b
  empty_class b e = record { empty = (best_is_none_without_paths t v end n k b).0 e }

  pub outcome_means : Means t v end n k (outcome t v end n k)
  unfolding outcome
  outcome_means = go (best t v end n k 0) (best t v end n k 1) refl refl
    where
      go : (x y : Option ℤ) → best t v end n k 0 ≡ x → best t v end n k 1 ≡ y → Means t v end n k (outcome_of x y)
      go (some zeros) (some ones) e f = unfold outcome_of Means in record {
        zeros = zeros;
        ones = ones;
        best_zero = (best_is_some t v end n k 0 zeros).0 e;
        best_one = (best_is_some t v end n k 1 ones).0 f;
        half = half_exact ones zeros (best_parity t v end n k 1 0 ones zeros f e);
      }
      go (some zeros) none e f =
          unfold outcome_of Means in record { bit = omega arith; top = zeros; has = (best_is_some t v end n k 0 zeros).0 e; other = empty_class 1 f }
      go none (some ones) e f =
          unfold outcome_of Means in record { bit = omega arith; top = ones; has = (best_is_some t v end n k 1 ones).0 f; other = empty_class 0 e }
      go none none e f = unfold outcome_of Means in record { no_zeros = empty_class 0 e; no_ones = empty_class 1 f }

  -- ---- no other outcome means the same

  best_empty : (b : ℕ) → IsEmptyClass t end n k b → best t v end n k b ≡ none
  best_empty b h = (best_is_none_without_paths t v end n k b).1 h.empty

  outcome_from : (x y : Option ℤ) → best t v end n k 0 ≡ x → best t v end n k 1 ≡ y → outcome t v end n k ≡ outcome_of x y
  unfolding outcome
  outcome_from x y e f = ap₂ outcome_of e f

  outcome_free : (m : ℤ) → IsFree t v end n k m → outcome t v end n k ≡ some (Free m)
  unfolding outcome_of
  outcome_free m h =
      let zero_is = (best_is_some t v end n k 0 h.zeros).1 h.best_zero in
      let one_is = (best_is_some t v end n k 1 h.ones).1 h.best_one in
      let exact = half_exact h.ones h.zeros (best_parity t v end n k 1 0 h.ones h.zeros one_is zero_is) in
      outcome_from (some h.zeros) (some h.ones) zero_is one_is ∙ ap (λ x. some (Free x)) (same_half exact h.half)

  outcome_forced : (b : ℕ) → IsForced t v end n k b → outcome t v end n k ≡ some (Forced b)
  unfolding outcome_of
  outcome_forced zero h = outcome_from (some h.top) none ((best_is_some t v end n k 0 h.top).1 h.has) (best_empty 1 h.other)
  outcome_forced (suc zero) h = outcome_from none (some h.top) (best_empty 0 h.other) ((best_is_some t v end n k 1 h.top).1 h.has)
  outcome_forced (suc (suc b)) h = absurd (omega (arith, h.bit))

  outcome_none : IsNone t end n k → outcome t v end n k ≡ none
  unfolding outcome_of
  outcome_none h = outcome_from none none (best_empty 0 h.no_zeros) (best_empty 1 h.no_ones)

  pub meant_is_outcome : (o : Option Outcome) → Means t v end n k o → outcome t v end n k ≡ o
  unfolding Means
  meant_is_outcome none h = outcome_none h
  meant_is_outcome (some (Free m)) h = outcome_free m h
  meant_is_outcome (some (Forced b)) h = outcome_forced b h

  -- so free, forced and no path exclude each other, and a margin is the only one that fits
  pub means_one : (o q : Option Outcome) → Means t v end n k o → Means t v end n k q → o ≡ q
  means_one o q h g = sym (meant_is_outcome o h) ∙ meant_is_outcome q g

  -- ---- what is written

  pub mark_written : Option-elim (position t v end n k) 0 (λ p. mark p.outcome) ≡ Option-elim (outcome t v end n k) 0 mark
  unfolding position position_of Option-elim
  mark_written = go (outcome t v end n k)
    where
      go : (o : Option Outcome) → Option-elim (position_of (intrinsic t v k) o) 0 (λ p. mark p.outcome) ≡ Option-elim o 0 mark
      go none = refl
      go (some o) = refl

  pub margin_written : Option-elim (position t v end n k) (pos 0) (λ p. margin p.outcome) ≡ Option-elim (outcome t v end n k) (pos 0) margin
  unfolding position position_of Option-elim
  margin_written = go (outcome t v end n k)
    where
      go : (o : Option Outcome) → Option-elim (position_of (intrinsic t v k) o) (pos 0) (λ p. margin p.outcome) ≡ Option-elim o (pos 0) margin
      go none = refl
      go (some o) = refl

  pub extrinsic_written : Option-elim (position t v end n k) (pos 0) (λ p. p.extrinsic) ≡ Option-elim (outcome t v end n k) (pos 0) (extrinsic (intrinsic t v k))
  unfolding position position_of Option-elim
  extrinsic_written = go (outcome t v end n k)
    where
      go : (o : Option Outcome) → Option-elim (position_of (intrinsic t v k) o) (pos 0) (λ p. p.extrinsic) ≡ Option-elim o (pos 0) (extrinsic (intrinsic t v k))
      go none = refl
      go (some o) = refl
