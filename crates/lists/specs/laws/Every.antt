-- `every` passes exactly where each entry passes, and `any` exactly where some entry does; entries are named by their index.
-- Assumes nothing.
use Rattle.std.specs.Prelude.{◌≡◌, Bool, ◌&&◌, ◌||◌, length, get_or, take, replicate}
use Rattle.std.proofs.Math.Path.{refl}
use Rattle.std.proofs.Common.{sym, ap, ◌∙◌, add-one}
use Rattle.std.proofs.Math.Logic.{⊎_elim}
use Rattle.std.proofs.Math.Bool.{true, false}
use Rattle.std.proofs.lemmas.Bool.{false≢true}
use mathlib.Core.List.{List, [], ◌∷◌, ◌++◌}
use Prim.Native.Nat.{ℕ, zero, suc, ◌+◌, ◌<◌}
use native.Mathlib.Omega.{arith}
use Rattle.lists.specs.Lists.{every, any, upto}
use Rattle.lists.specs.laws.Listed.{listed_length, listed_at}
use Rattle.lists.specs.laws.Tests.{and_left, and_right, and_both, and_true, or_cases}

module _ {A : Type 0} (f : A → Bool) where
  pub every_append : (xs ys : List A) → every f xs ≡ true → every f ys ≡ true → every f (xs ++ ys) ≡ true
  unfolding every
  every_append [] ys e g = g
  every_append (x ∷ xs) ys e g = let (here, rest) = and_both (f x) (every f xs) e in and_true here (every_append xs ys rest g)

  pub every_replicate : (n : ℕ) (x : A) → f x ≡ true → every f (replicate n x) ≡ true
  unfolding every
  every_replicate zero x e = refl
  every_replicate (suc n) x e = and_true e (every_replicate n x e)

module _ {A : Type 0} (f : A → Bool) (d : A) where
  -- one entry more
  every_suc : (xs : List A) (i : ℕ) → i < length xs → every f (take (suc i) xs) ≡ (every f (take i xs) && f (get_or xs i d))
  unfolding every
  every_suc [] i h = absurd (omega arith)
  every_suc (x ∷ xs) zero h = go (f x)
    where
      go : (t : Bool) → (t && true) ≡ (true && t)
      go true = refl
      go false = refl
  every_suc (x ∷ xs) (suc i) h = go (f x) (every_suc xs i (omega arith))
    where
      go : (t : Bool) → every f (take (suc i) xs) ≡ (every f (take i xs) && f (get_or xs i d))
          → (t && every f (take (suc i) xs)) ≡ ((t && every f (take i xs)) && f (get_or xs i d))
      go true e = e
      go false e = refl

  pub every_take : (xs : List A) (i : ℕ) → i < length xs → every f (take (i + 1) xs) ≡ (every f (take i xs) && f (get_or xs i d))
  every_take xs i h = rw add-one (every_suc xs i h)

  pub every_at : (xs : List A) → every f xs ≡ true → (i : ℕ) → i < length xs → f (get_or xs i d) ≡ true
  unfolding every
  every_at [] e i h = absurd (omega arith)
  every_at (x ∷ xs) e zero h = and_left (f x) (every f xs) e
  every_at (x ∷ xs) e (suc i) h = every_at xs (and_right (f x) (every f xs) e) i (omega arith)

  pub at_every : (xs : List A) → ((i : ℕ) → i < length xs → f (get_or xs i d) ≡ true) → every f xs ≡ true
  unfolding every
  at_every [] h = refl
  at_every (x ∷ xs) h = and_true (h 0 (omega arith)) (at_every xs (λ i l. h (suc i) (omega arith)))

  pub every_not : (xs : List A) (i : ℕ) → f (get_or xs i d) ≡ false → i < length xs → every f xs ≡ false
  every_not xs i e h = go (every f xs) refl
    where
      go : (t : Bool) → every f xs ≡ t → every f xs ≡ false
      go true g = absurd (false≢true (sym e ∙ every_at xs g i h))
      go false g = g

  pub at_any : (xs : List A) (i : ℕ) → f (get_or xs i d) ≡ true → i < length xs → any f xs ≡ true
  unfolding any
  at_any [] i e h = absurd (omega arith)
  at_any (x ∷ xs) zero e h = rw e
  at_any (x ∷ xs) (suc i) e h = go (f x) (at_any xs i e (omega arith))
    where
      go : (t : Bool) → any f xs ≡ true → (t || any f xs) ≡ true
      go true g = refl
      go false g = g

  pub any_at : (xs : List A) → any f xs ≡ true → (i : ℕ) × (i < length xs) × (f (get_or xs i d) ≡ true)
  unfolding any
  any_at [] e = absurd (false≢true e)
  any_at (x ∷ xs) e = ⊎_elim (λ g. (0, omega arith, g)) (λ g. let (i, h, p) = any_at xs g in (suc i, omega arith, p)) (or_cases (f x) (any f xs) e)

-- ---- the numbers below n

upto_length : (n : ℕ) → length (upto n) ≡ n
unfolding upto
upto_length n = listed_length (λ i. i) n

upto_at : (n i : ℕ) → i < n → get_or (upto n) i 0 ≡ i
unfolding upto
upto_at n i h = listed_at (λ i. i) n i 0 h

module _ (f : ℕ → Bool) (n : ℕ) where
  pub every_upto_at : every f (upto n) ≡ true → (i : ℕ) → i < n → f i ≡ true
  every_upto_at e i h = ap f (sym (upto_at n i h)) ∙ every_at f 0 (upto n) e i (omega (arith, upto_length n))

  pub at_every_upto : ((i : ℕ) → i < n → f i ≡ true) → every f (upto n) ≡ true
  at_every_upto h = at_every f 0 (upto n) (λ i l. let k : i < n = omega (arith, upto_length n) in rw (upto_at n i k) (h i k))

  pub every_upto_not : (i : ℕ) → f i ≡ false → i < n → every f (upto n) ≡ false
  every_upto_not i e h = every_not f 0 (upto n) i (rw (upto_at n i h) e) (omega (arith, upto_length n))

  pub any_upto_at : any f (upto n) ≡ true → (i : ℕ) × (i < n) × (f i ≡ true)
  any_upto_at e =
      let (i, h, p) = any_at f 0 (upto n) e in
      let l : i < n = omega (arith, upto_length n) in
      (i, l, rw (upto_at n i l) at p)

  pub at_any_upto : (i : ℕ) → i < n → f i ≡ true → any f (upto n) ≡ true
  at_any_upto i h p = at_any f 0 (upto n) i (rw (upto_at n i h) p) (omega (arith, upto_length n))

  pub none_upto_at : any f (upto n) ≡ false → (i : ℕ) → i < n → f i ≡ false
  none_upto_at e i h = go (f i) refl
    where
      go : (t : Bool) → f i ≡ t → f i ≡ false
      go true g = absurd (false≢true (sym e ∙ at_any_upto i h g))
      go false g = g
