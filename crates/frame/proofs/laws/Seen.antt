-- The test of a pattern in one pass over it, with a mark for each number seen: what the marks say, and what ends the pass.
-- Assumes nothing.
use Rattle.std.specs.Prelude.{◌≡◌, refl, Bool, true, false, List, ℕ, ◌+◌, ◌≤◌, ◌<◌, length, get_or, set, replicate}
use Rattle.std.proofs.Common.{sym, ap, ◌∙◌, arith, length-set, get_or-set_same, get_or-set_other}
use Rattle.std.proofs.lemmas.Bool.{false≢true}
use Rattle.std.proofs.Math.Decide.{ℕ_discrete, dec_lt}
use Rattle.std.proofs.lemmas.List.{length-replicate, get_or-replicate}
use Rattle.std.proofs.Math.ListN.{get_or-eq_default}
use Rattle.frame.specs.Interleaver.{permutes, place}
use Rattle.frame.specs.laws.Counting.{Distinct}
use Rattle.frame.proofs.laws.Interleaving.{permuting, distinct_permutes}

-- the first i entries are below the length and distinct, and exactly they are marked
pub record Seen (p : List ℕ) (i : ℕ) (seen : List Bool) : Type 0 where
  pub size : length seen ≡ 4096
  pub below : (j : ℕ) → j < i → get_or p j 0 < length p
  pub distinct : Distinct p i
  pub marked : (j : ℕ) → j < i → get_or seen (get_or p j 0) false ≡ true
  pub marks : (x : ℕ) → get_or seen x false ≡ true → (j : ℕ) × (j < i) × (get_or p j 0 ≡ x)

unmarked : (n x : ℕ) → get_or (replicate n false) x false ≡ false
unmarked n x = elim (dec_lt x n) [
  | yes h ↦ get_or-replicate n x false false h
  | no h ↦ get_or-eq_default (replicate n false) false (omega (arith, length-replicate n false))
]

pub seen_none : (p : List ℕ) → Seen p 0 (replicate 4096 false)
seen_none p = record {
  size = length-replicate 4096 false;
  below = λ j h. absurd (omega arith);
  distinct = record { differ = λ j l g h. absurd (omega arith) };
  marked = λ j h. absurd (omega arith);
  marks = λ x e. absurd (false≢true (sym (unmarked 4096 x) ∙ e));
}

pub seen_more : {p : List ℕ} {i : ℕ} {seen : List Bool} → length p ≤ 4096 → get_or p i 0 < length p → get_or seen (get_or p i 0) false ≡ false →
    Seen p i seen → Seen p (i + 1) (set seen (get_or p i 0) true)
seen_more {p} {i} {seen} few small new h = record {
  size = length-set seen (get_or p i 0) true ∙ h.size;
  below = λ j l. elim (ℕ_discrete j i) [ yes q ↦ rw q small | no q ↦ h.below j (omega arith) ];
  distinct = record { differ = differ };
  marked = λ j l. elim (ℕ_discrete (get_or p j 0) (get_or p i 0)) [ yes q ↦ rw q here | no q ↦ there (get_or p j 0) q ∙ h.marked j (before j l q) ];
  marks = marks;
}
  where
    here : get_or (set seen (get_or p i 0) true) (get_or p i 0) false ≡ true
    here = get_or-set_same seen (get_or p i 0) true false (omega (arith, h.size))

    there : (x : ℕ) → (x ≡ get_or p i 0 → ⊥) → get_or (set seen (get_or p i 0) true) x false ≡ get_or seen x false
    there x q = get_or-set_other seen (get_or p i 0) x true false q

    before : (j : ℕ) → j < i + 1 → (get_or p j 0 ≡ get_or p i 0 → ⊥) → j < i
    before j l q = elim (ℕ_discrete j i) [ yes r ↦ absurd (q (ap (λ k. get_or p k 0) r)) | no r ↦ omega arith ]

    differ : (j l : ℕ) → j < l → l < i + 1 → get_or p j 0 ≡ get_or p l 0 → ⊥
    differ j l g m e = elim (ℕ_discrete l i) [
      | yes q ↦ false≢true (sym new ∙ (rw (e ∙ ap (λ k. get_or p k 0) q) at (h.marked j (omega arith))))
      | no q ↦ h.distinct.differ j l g (omega arith) e
    ]

    marks : (x : ℕ) → get_or (set seen (get_or p i 0) true) x false ≡ true → (j : ℕ) × (j < i + 1) × (get_or p j 0 ≡ x)
    marks x e = elim (ℕ_discrete x (get_or p i 0)) [
      | yes q ↦ (i, omega arith, sym q)
      | no q ↦ let (j, l, r) = h.marks x (sym (there x q) ∙ e) in (j, omega arith, r)
    ]

-- ---- how the pass ends

refuted : (p : List ℕ) → (permutes (length p) p ≡ true → ⊥) → permutes (length p) p ≡ false
refuted p no_way = go (permutes (length p) p) refl
  where
    go : (t : Bool) → permutes (length p) p ≡ t → permutes (length p) p ≡ false
    go true e = absurd (no_way e)
    go false e = e

-- an entry of K or more
pub seen_too_large : (p : List ℕ) (i : ℕ) → i < length p → length p ≤ get_or p i 0 → permutes (length p) p ≡ false
seen_too_large p i h l = refuted p (λ e. let b = (permuting (length p) p refl e).below i h in omega arith)

-- an entry that is marked already
pub seen_twice : {p : List ℕ} {i : ℕ} {seen : List Bool} → i < length p → get_or seen (get_or p i 0) false ≡ true → Seen p i seen →
    permutes (length p) p ≡ false
seen_twice {p} {i} {seen} h m s = refuted p (λ e. clash (permuting (length p) p refl e).place_at)
  where
    clash : ((j : ℕ) → j < length p → place (get_or p j 0) p ≡ j) → ⊥
    clash at =
        let (j, l, r) = s.marks (get_or p i 0) m in
        let q : j ≡ i = sym (at j (omega arith)) ∙ ap (λ x. place x p) r ∙ at i h in
        omega arith

-- no entry left
pub seen_all : {p : List ℕ} {seen : List Bool} → Seen p (length p) seen → permutes (length p) p ≡ true
seen_all {p} s = distinct_permutes p s.below s.distinct

-- what a pass over a pattern goes by
pub ruleset one_pass = (seen_more, seen_too_large, seen_twice, seen_all)
