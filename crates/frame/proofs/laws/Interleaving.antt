-- What a pattern does: it has every number below K at one place and no other number, so interleaving and deinterleaving undo each other.
-- Assumes nothing.
use Rattle.std.specs.Prelude.{◌≡◌, true, List, [], ◌∷◌, ℕ, zero, suc, ◌+◌, ◌<◌, eqb, ltb, length, set}
use Rattle.std.proofs.Math.Path.{refl, sym}
use Rattle.std.proofs.Common.{ap, ◌∙◌, arith, get_or-set_same, get_or-set_other, eqb-true, eq-eqb, ltb-true, lt-ltb}
use Rattle.std.proofs.Math.Decide.{ℕ_discrete}
use Rattle.std.proofs.Math.ListN.{get_or, length-map}
use Rattle.std.proofs.Math.Seq.{ext_get_or}
use Rattle.lists.specs.Lists.{count}
use Rattle.lists.specs.laws.Listed.{listed_length, listed_at}
use Rattle.lists.specs.laws.Every.{every_upto_at, at_every_upto}
use Rattle.lists.specs.laws.Stores.{Filled}
use Rattle.frame.specs.Interleaver.{permutes, place, interleave, deinterleave}
use Rattle.frame.specs.laws.Counting.{place_holds, place_only, sum_to, sum_ones, sum_counts, sum_tight, count_all, count_every, Distinct, distinct_once}
use Rattle.frame.specs.laws.Interleaving.{Permutes}

-- entry i of an interleaved list
interleaved_at : {A : Type 0} (d : A) (xs : List A) (p : List ℕ) (i : ℕ) → i < length p → get_or (interleave d p xs) i d ≡ get_or xs (get_or p i 0) d
unfolding interleave
interleaved_at d xs [] i h = absurd (omega arith)
interleaved_at d xs (y ∷ p) zero h = refl
interleaved_at d xs (y ∷ p) (suc i) h = interleaved_at d xs p i (omega arith)

-- ---- what a pattern of K entries does

pub permuting : (k : ℕ) (p : List ℕ) → length p ≡ k → permutes k p ≡ true → Permutes k p
unfolding permutes
permuting k p e t = record {
  size = e;
  below = small;
  place_below = λ x h. omega (arith, (place_holds x p (some x h)).0);
  at_place = λ x h. (place_holds x p (some x h)).1;
  place_at = λ i h. place_only (get_or p i 0) p i (once (get_or p i 0) (small i h)) (omega arith) refl;
}
  where
    once : (x : ℕ) → x < k → count (eqb x) p ≡ 1
    once x h = eqb-true (count (eqb x) p) 1 (every_upto_at (λ y. eqb (count (eqb y) p) 1) k t x h)

    some : (x : ℕ) → x < k → 0 < count (eqb x) p
    some x h = omega (arith, once x h)

    small : (i : ℕ) → i < k → get_or p i 0 < k
    small i h =
        ltb-true (get_or p i 0) k
        (count_all (λ y. ltb y k) p (sym (sum_counts p k) ∙ sum_ones (λ x. count (eqb x) p) k once ∙ sym e) i (omega arith))

-- K entries below K, no two of them equal, are a pattern
pub distinct_permutes : (p : List ℕ) → ((i : ℕ) → i < length p → get_or p i 0 < length p) → Distinct p (length p) → permutes (length p) p ≡ true
unfolding permutes
distinct_permutes p below h =
    at_every_upto _ (length p) (λ x l. eq-eqb (count (eqb x) p) 1 (sum_tight (λ y. count (eqb y) p) (length p) (λ y m. distinct_once y p h) all x l))
  where
    all : sum_to (λ y. count (eqb y) p) (length p) ≡ length p
    all = sum_counts p (length p) ∙ count_every (λ y. ltb y (length p)) p (λ i l. lt-ltb (get_or p i 0) (length p) (below i l))

module _ {A : Type 0} (d : A) (k : ℕ) (p : List ℕ) (w : Permutes k p) (xs : List A) where
  -- entry i of the interleaved list is entry pattern(i)
  pub interleave_at : (i : ℕ) → i < k → get_or (interleave d p xs) i d ≡ get_or xs (get_or p i 0) d
  interleave_at i h = interleaved_at d xs p i (omega (arith, w.size))

  -- entry pattern(i) of the deinterleaved list is entry i
  pub deinterleave_at : (i : ℕ) → i < k → get_or (deinterleave d p xs) (get_or p i 0) d ≡ get_or xs i d
  unfolding deinterleave
  deinterleave_at i h = listed_at _ (length p) (get_or p i 0) d (omega (arith, w.below i h, w.size)) ∙ rw (w.place_at i h) refl

  pub interleave_length : length (interleave d p xs) ≡ k
  unfolding interleave
  interleave_length = length-map p _ ∙ w.size

  pub deinterleave_length : length (deinterleave d p xs) ≡ k
  unfolding deinterleave
  deinterleave_length = listed_length _ (length p) ∙ w.size

-- each undoes the other
module _ {A : Type 0} (d : A) (k : ℕ) (p : List ℕ) (w : Permutes k p) (xs : List A) (size : length xs ≡ k) where
  pub deinterleave_undoes : deinterleave d p (interleave d p xs) ≡ xs
  deinterleave_undoes = ext_get_or d _ xs (between ∙ sym size) (λ x h. at x (omega (arith, between)))
    where
      between : length (deinterleave d p (interleave d p xs)) ≡ k
      between = deinterleave_length d k p w (interleave d p xs)

      at : (x : ℕ) → x < k → get_or (deinterleave d p (interleave d p xs)) x d ≡ get_or xs x d
      at x h =
          let i = place x p in
          let e : get_or p i 0 ≡ x = w.at_place x h in
          rw e at
          (deinterleave_at d k p w (interleave d p xs) i (w.place_below x h)
          ∙ interleave_at d k p w xs i (w.place_below x h))

  pub interleave_undoes : interleave d p (deinterleave d p xs) ≡ xs
  interleave_undoes = ext_get_or d _ xs (between ∙ sym size) (λ i h. at i (omega (arith, between)))
    where
      between : length (interleave d p (deinterleave d p xs)) ≡ k
      between = interleave_length d k p w (deinterleave d p xs)

      at : (i : ℕ) → i < k → get_or (interleave d p (deinterleave d p xs)) i d ≡ get_or xs i d
      at i h = interleave_at d k p w (deinterleave d p xs) i h ∙ deinterleave_at d k p w xs i h

-- ---- loops that interleave and deinterleave, one entry an index

pub interleave_filled : {A : Type 0} (d : A) (p : List ℕ) (xs out : List A) → length out ≡ length p →
    Filled d (λ j. get_or xs (get_or p j 0) d) out (length p) → out ≡ interleave d p xs
unfolding interleave
interleave_filled d p xs out e h = ext_get_or d out (interleave d p xs) (e ∙ sym (length-map p _)) (λ i l. h.entry i (omega arith) ∙ sym (interleaved_at d xs p i (omega arith)))

-- the first i entries of xs are in their places
pub record Placed {A : Type 0} (d : A) (p : List ℕ) (xs out : List A) (i : ℕ) : Type 0 where
  pub entry : (j : ℕ) → j < i → get_or out (get_or p j 0) d ≡ get_or xs j d

module _ {A : Type 0} {d : A} {p : List ℕ} {xs : List A} where
  pub placed_none : (out : List A) → Placed d p xs out 0
  placed_none out = record { entry = λ j h. absurd (omega arith) }

  pub placed_more : {k : ℕ} {out : List A} {i : ℕ} {v : A} → Permutes k p → length out ≡ k → i < k → v ≡ get_or xs i d →
      Placed d p xs out i → Placed d p xs (set out (get_or p i 0) v) (i + 1)
  placed_more {k} {out} {i} {v} w l h e q = record { entry = one_more }
    where
      one_more : (j : ℕ) → j < i + 1 → get_or (set out (get_or p i 0) v) (get_or p j 0) d ≡ get_or xs j d
      one_more j g = elim (ℕ_discrete j i) [
        | yes s ↦ rw s (get_or-set_same out (get_or p i 0) v d (omega (arith, w.below i h)) ∙ e)
        | no s ↦
            get_or-set_other out (get_or p i 0) (get_or p j 0) v d (λ r. s (sym (w.place_at j (omega arith)) ∙ ap (λ x. place x p) r ∙ w.place_at i h))
            ∙ q.entry j (omega arith)
      ]

  pub placed_all : {k : ℕ} {out : List A} → Permutes k p → length out ≡ k → Placed d p xs out k → out ≡ deinterleave d p xs
  unfolding deinterleave
  placed_all {k} {out} w l q = ext_get_or d out _ (l ∙ sym w.size ∙ sym (listed_length _ (length p))) (λ x h. at x (omega arith) ∙ sym (listed_at _ (length p) x d (omega (arith, w.size))))
    where
      at : (x : ℕ) → x < k → get_or out x d ≡ get_or xs (place x p) d
      at x h = rw (w.at_place x h) at (q.entry (place x p) (w.place_below x h))
