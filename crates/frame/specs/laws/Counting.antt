-- Counting the entries of a list of numbers: the place of a number that stands there, and the counts of the numbers below n, added up.
-- Assumes nothing.
use Rattle.std.specs.Prelude.{◌≡◌, refl, Bool, true, false, cond, List, [], ◌∷◌, ℕ, zero, suc, ◌+◌, ◌≤◌, ◌<◌, eqb, ltb, length, get_or}
use Rattle.std.proofs.Common.{sym, ap, ◌∙◌, arith, eqb-true, eq-eqb, ltb-true, ltb-false, lt-ltb, le-ltb}
use Rattle.std.proofs.Math.Decide.{ℕ_discrete}
use Rattle.std.proofs.lemmas.Bool.{eqb-false}
use Rattle.lists.specs.Lists.{count}
use Rattle.frame.specs.Interleaver.{place}

-- ---- places

-- a number that stands in a list has a place there
pub place_holds : (x : ℕ) (p : List ℕ) → 0 < count (eqb x) p → (place x p < length p) × (get_or p (place x p) 0 ≡ x)
unfolding count place
place_holds x [] h = absurd (omega arith)
place_holds x (y ∷ p) h = go (eqb x y) refl h (place_holds x p)
  where
    go : (t : Bool) → eqb x y ≡ t → 0 < cond t (suc (count (eqb x) p)) (count (eqb x) p) → (0 < count (eqb x) p → (place x p < length p) × (get_or p (place x p) 0 ≡ x)) → (cond t 0 (suc (place x p)) < suc (length p)) × (get_or (y ∷ p) (cond t 0 (suc (place x p))) 0 ≡ x)
    go true e h below = (omega arith, sym (eqb-true x y e))
    go false e h below = (omega (arith, (below h).0), (below h).1)

-- an entry is counted
counted : (x : ℕ) (p : List ℕ) (i : ℕ) → i < length p → get_or p i 0 ≡ x → 0 < count (eqb x) p
unfolding count
counted x [] i h e = absurd (omega arith)
counted x (y ∷ p) zero h e = rw (eq-eqb x y (sym e)) (omega arith)
counted x (y ∷ p) (suc i) h e = go (eqb x y) (counted x p i (omega arith) e)
  where
    go : (t : Bool) → 0 < count (eqb x) p → 0 < cond t (suc (count (eqb x) p)) (count (eqb x) p)
    go true l = omega arith
    go false l = l

-- a number that stands there once has no other place
pub place_only : (x : ℕ) (p : List ℕ) (i : ℕ) → count (eqb x) p ≡ 1 → i < length p → get_or p i 0 ≡ x → place x p ≡ i
unfolding count place
place_only x [] i c h e = absurd (omega arith)
place_only x (y ∷ p) zero c h e = rw (eq-eqb x y (sym e))
place_only x (y ∷ p) (suc i) c h e = go (eqb x y) c (counted x p i (omega arith) e) (λ d. place_only x p i d (omega arith) e)
  where
    go : (t : Bool) → cond t (suc (count (eqb x) p)) (count (eqb x) p) ≡ 1 → 0 < count (eqb x) p → (count (eqb x) p ≡ 1 → place x p ≡ i) → cond t 0 (suc (place x p)) ≡ suc i
    go true d l below = absurd (omega arith)
    go false d l below = ap suc (below d)

-- ---- no entry is K or more: the counts of the numbers below K already add up to K entries

pub sum_to : (ℕ → ℕ) → ℕ → ℕ
sum_to f zero = 0
sum_to f (suc n) = sum_to f n + f n

pub sum_ones : (f : ℕ → ℕ) (n : ℕ) → ((x : ℕ) → x < n → f x ≡ 1) → sum_to f n ≡ n
unfolding sum_to
sum_ones f zero h = refl
sum_ones f (suc n) h = omega (arith, sum_ones f n (λ x l. h x (omega arith)), h n (omega arith))

sum_zeros : (n : ℕ) → sum_to (λ x. 0) n ≡ 0
unfolding sum_to
sum_zeros zero = refl
sum_zeros (suc n) = omega (arith, sum_zeros n)

-- one entry more is counted for itself alone
sum_more : (y : ℕ) (p : List ℕ) (n : ℕ) → sum_to (λ x. count (eqb x) (y ∷ p)) n ≡ cond (ltb y n) 1 0 + sum_to (λ x. count (eqb x) p) n
unfolding sum_to count
sum_more y p zero = rw (le-ltb y 0 (omega arith))
sum_more y p (suc n) = go (eqb n y) refl (ltb y n) refl (sum_more y p n)
  where
    f : ℕ → ℕ
    f x = count (eqb x) p

    go : (t : Bool) → eqb n y ≡ t → (u : Bool) → ltb y n ≡ u → sum_to (λ x. cond (eqb x y) (suc (f x)) (f x)) n ≡ cond u 1 0 + sum_to f n → sum_to (λ x. cond (eqb x y) (suc (f x)) (f x)) n + cond t (suc (f n)) (f n) ≡ cond (ltb y (suc n)) 1 0 + (sum_to f n + f n)
    go true e true g r = absurd (omega (arith, eqb-true n y e, ltb-true y n g))
    go true e false g r = rw (lt-ltb y (suc n) (omega (arith, eqb-true n y e))) (omega (arith, r))
    go false e true g r = rw (lt-ltb y (suc n) (omega (arith, ltb-true y n g))) (omega (arith, r))
    go false e false g r = rw (le-ltb y (suc n) (omega (arith, ltb-false y n g, eqb-false n y e))) (omega (arith, r))

pub sum_counts : (p : List ℕ) (n : ℕ) → sum_to (λ x. count (eqb x) p) n ≡ count (λ y. ltb y n) p
unfolding count
sum_counts [] n = sum_zeros n
sum_counts (y ∷ p) n = sum_more y p n ∙ go (ltb y n) (sum_counts p n)
  where
    go : (t : Bool) → sum_to (λ x. count (eqb x) p) n ≡ count (λ z. ltb z n) p → cond t 1 0 + sum_to (λ x. count (eqb x) p) n ≡ cond t (suc (count (λ z. ltb z n) p)) (count (λ z. ltb z n) p)
    go true r = omega arith
    go false r = omega arith

count_most : (f : ℕ → Bool) (p : List ℕ) → count f p ≤ length p
unfolding count
count_most f [] = omega arith
count_most f (y ∷ p) = go (f y) (count_most f p)
  where
    go : (t : Bool) → count f p ≤ length p → cond t (suc (count f p)) (count f p) ≤ suc (length p)
    go true r = omega arith
    go false r = omega arith

-- where all are counted, each passes
pub count_all : (f : ℕ → Bool) (p : List ℕ) → count f p ≡ length p → (i : ℕ) → i < length p → f (get_or p i 0) ≡ true
unfolding count
count_all f [] e i h = absurd (omega arith)
count_all f (y ∷ p) e i h = go (f y) refl e i h (count_all f p)
  where
    go : (t : Bool) → f y ≡ t → cond t (suc (count f p)) (count f p) ≡ suc (length p) → (i : ℕ) → i < suc (length p) → (count f p ≡ length p → (j : ℕ) → j < length p → f (get_or p j 0) ≡ true) → f (get_or (y ∷ p) i 0) ≡ true
    go true g e zero h below = g
    go true g e (suc j) h below = below (omega arith) j (omega arith)
    go false g e i h below = absurd (omega (arith, count_most f p))

-- where all pass, all are counted
pub count_every : (f : ℕ → Bool) (p : List ℕ) → ((i : ℕ) → i < length p → f (get_or p i 0) ≡ true) → count f p ≡ length p
unfolding count
count_every f [] h = refl
count_every f (y ∷ p) h = rw (h 0 (omega arith)) (ap suc (count_every f p (λ i l. h (suc i) (omega arith))))

-- entries of which no two are equal
pub record Distinct (p : List ℕ) (n : ℕ) : Type 0 where
  pub differ : (i j : ℕ) → i < j → j < n → get_or p i 0 ≡ get_or p j 0 → ⊥

-- a number stands among them at most once
pub distinct_once : (x : ℕ) (p : List ℕ) → Distinct p (length p) → count (eqb x) p ≤ 1
unfolding count
distinct_once x [] h = omega arith
distinct_once x (y ∷ p) h = go (eqb x y) refl (distinct_once x p (record { differ = λ i j l m. h.differ (suc i) (suc j) (omega arith) (omega arith) }))
  where
    again : x ≡ y → 0 < count (eqb x) p → ⊥
    again e l = h.differ 0 (suc (place x p)) (omega arith) (omega (arith, (place_holds x p l).0)) (sym e ∙ sym (place_holds x p l).1)

    go : (t : Bool) → eqb x y ≡ t → count (eqb x) p ≤ 1 → cond t (suc (count (eqb x) p)) (count (eqb x) p) ≤ 1
    go true e l = let m : count (eqb x) p ≤ 0 = omega (arith, again (eqb-true x y e)) in omega arith
    go false e l = l

-- numbers of at most 1 that add up to n are n ones
sum_most : (f : ℕ → ℕ) (n : ℕ) → ((x : ℕ) → x < n → f x ≤ 1) → sum_to f n ≤ n
unfolding sum_to
sum_most f zero h = omega arith
sum_most f (suc n) h = omega (arith, sum_most f n (λ x l. h x (omega arith)), h n (omega arith))

pub sum_tight : (f : ℕ → ℕ) (n : ℕ) → ((x : ℕ) → x < n → f x ≤ 1) → sum_to f n ≡ n → (x : ℕ) → x < n → f x ≡ 1
unfolding sum_to
sum_tight f zero h e x l = absurd (omega arith)
sum_tight f (suc n) h e x l = elim (ℕ_discrete x n) [
  | yes q ↦ rw q (omega (arith, below, h n (omega arith)))
  | no q ↦ sum_tight f n (λ y m. h y (omega arith)) (omega (arith, below, h n (omega arith))) x (omega arith)
]
  where
    below : sum_to f n ≤ n
    below = sum_most f n (λ x l. h x (omega arith))
