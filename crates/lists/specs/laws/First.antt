-- The first entry that fails a test: it fails and none before it does, and no other index is so; and how a loop over the entries finds it.
-- Assumes nothing.
use Rattle.std.specs.Prelude.{◌≡◌, Bool, ◌&&◌, ltb, get_or}
use Rattle.std.proofs.Math.Path.{refl}
use Rattle.std.proofs.Common.{sym, ap, lt-ltb, le-ltb}
use Rattle.std.proofs.Math.Bool.{true, false, cond}
use Rattle.std.proofs.lemmas.Bool.{false≢true}
use mathlib.Core.List.{List, [], ◌∷◌}
use Prim.Native.Nat.{ℕ, zero, suc, ◌+◌, ◌≤◌, ◌<◌}
use Rattle.std.proofs.Math.Decide.{dec_lt}
use native.Mathlib.Omega.{arith}
use Rattle.std.proofs.Math.ListN.{length}
use Rattle.lists.specs.Lists.{every, first_failing}

module _ {A : Type 0} (f : A → Bool) (d : A) where
  -- the entry at i fails, and every entry before it passes
  pub record IsFirst (xs : List A) (i : ℕ) : Type 0 where
    pub in_list : i < length xs
    pub fails : f (get_or xs i d) ≡ false
    pub passed : (j : ℕ) → j < i → f (get_or xs j d) ≡ true

  -- such an index is the first
  pub first_is : (xs : List A) (i : ℕ) → IsFirst xs i → first_failing f xs ≡ i
  unfolding first_failing
  first_is [] i h = absurd (omega (arith, h.in_list))
  first_is (x ∷ xs) zero h = rw h.fails refl
  first_is (x ∷ xs) (suc i) h =
      let rest : IsFirst xs i = record { in_list = omega (arith, h.in_list); fails = h.fails; passed = λ j l. h.passed (suc j) (omega arith) } in
      rw (h.passed 0 (omega arith)) (ap suc (first_is xs i rest))

  -- where some entry fails, the first is such an index
  pub first_fails : (xs : List A) → every f xs ≡ false → IsFirst xs (first_failing f xs)
  unfolding every first_failing
  first_fails [] e = absurd (false≢true (sym e))
  first_fails (x ∷ xs) e = go (f x) refl e (first_fails xs)
    where
      go : (t : Bool) → f x ≡ t → (t && every f xs) ≡ false → (every f xs ≡ false → IsFirst xs (first_failing f xs)) →
          IsFirst (x ∷ xs) (cond t (suc (first_failing f xs)) 0)
      go true here e more =
          let rest = more e in
          record {
            in_list = omega (arith, rest.in_list);
            fails = rest.fails;
            passed = elim [ zero ↦ λ l. here | suc j ↦ λ l. rest.passed j (omega arith) ];
          }
      go false here e more = record { in_list = omega arith; fails = here; passed = λ j l. absurd (omega arith) }

  -- it is the length at most; an entry that fails is not before it, and one that passes is another
  pub first_inside : (xs : List A) → first_failing f xs ≤ length xs
  unfolding first_failing
  first_inside [] = omega arith
  first_inside (x ∷ xs) = go (f x) (first_inside xs)
    where
      go : (t : Bool) → first_failing f xs ≤ length xs → cond t (suc (first_failing f xs)) 0 ≤ suc (length xs)
      go true h = omega arith
      go false h = omega arith

  pub first_at_most : (xs : List A) (i : ℕ) → i < length xs → f (get_or xs i d) ≡ false → first_failing f xs ≤ i
  unfolding first_failing
  first_at_most [] i l e = absurd (omega arith)
  first_at_most (x ∷ xs) zero l e = rw e (omega arith)
  first_at_most (x ∷ xs) (suc i) l e = go (f x) (first_at_most xs i (omega arith) e)
    where
      go : (t : Bool) → first_failing f xs ≤ i → cond t (suc (first_failing f xs)) 0 ≤ suc i
      go true h = omega arith
      go false h = omega arith

  pub first_other : (xs : List A) (i : ℕ) → i < length xs → f (get_or xs i d) ≡ true → first_failing f xs ≡ i → ⊥
  unfolding first_failing
  first_other [] i l e h = omega arith
  first_other (x ∷ xs) zero l e h = let g : suc (first_failing f xs) ≡ 0 = rw e at h in omega arith
  first_other (x ∷ xs) (suc i) l e h = go (f x) (first_other xs i (omega arith) e) h
    where
      go : (t : Bool) → (first_failing f xs ≡ i → ⊥) → cond t (suc (first_failing f xs)) 0 ≡ suc i → ⊥
      go true other h = other (omega arith)
      go false other h = omega arith

  -- where every entry passes, it is the length
  pub first_none : (xs : List A) → ((i : ℕ) → i < length xs → f (get_or xs i d) ≡ true) → first_failing f xs ≡ length xs
  first_none xs h = elim (dec_lt (first_failing f xs) (length xs)) [
    | yes l ↦ absurd (first_other xs (first_failing f xs) l (h (first_failing f xs) l) refl)
    | no l ↦ omega (arith, first_inside xs)
  ]

  -- ---- found so far, of the first i entries: the first that fails, or the length

  pub record SoFar (xs : List A) (i found : ℕ) : Type 0 where
    pub some_failed : first_failing f xs < i → found ≡ first_failing f xs
    pub none_failed : i ≤ first_failing f xs → found ≡ length xs

  pub so_far_more : (xs : List A) (i found : ℕ) → i < length xs → SoFar xs i found →
      SoFar xs (i + 1) (cond (f (get_or xs i d)) found (cond (ltb i found) i found))
  so_far_more xs i found l s = go (f (get_or xs i d)) refl
    where
      go : (t : Bool) → f (get_or xs i d) ≡ t → SoFar xs (i + 1) (cond t found (cond (ltb i found) i found))
      go true e = record {
        some_failed = λ h. s.some_failed (let other = first_other xs i l e in elim (dec_lt (first_failing f xs) i) [ yes b ↦ b | no b ↦ absurd (other (omega arith)) ]);
        none_failed = λ h. s.none_failed (omega arith);
      }
      go false e =
          let most = first_at_most xs i l e in
          elim (dec_lt (first_failing f xs) i) [
            | yes b ↦
                let found-is = s.some_failed b in
                rw (le-ltb i found (omega arith)) (record { some_failed = λ h. found-is; none_failed = λ h. absurd (omega arith) })
            | no b ↦
                let found-is = s.none_failed (omega arith) in
                rw (lt-ltb i found (omega arith)) (record { some_failed = λ h. omega arith; none_failed = λ h. absurd (omega arith) })
          ]

  pub so_far_all : (xs : List A) (i found : ℕ) → length xs ≤ i → SoFar xs i found → found ≡ first_failing f xs
  so_far_all xs i found l s = elim (dec_lt (first_failing f xs) i) [
    | yes b ↦ s.some_failed b
    | no b ↦ omega (arith, s.none_failed (omega arith), first_inside xs)
  ]
