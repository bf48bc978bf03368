-- How many entries pass a test: of two lists one after the other, of the entries before an index, of equal entries.
-- Assumes nothing.
use Rattle.std.specs.Prelude.{◌≡◌, Bool, length, get_or, take, replicate}
use Rattle.std.proofs.Math.Path.{refl, sym}
use Rattle.std.proofs.Common.{ap, ◌∙◌, zero-add, add-one}
use Rattle.std.proofs.Math.Bool.{true, false, cond}
use mathlib.Core.List.{List, [], ◌∷◌, ◌++◌}
use Prim.Native.Nat.{ℕ, zero, suc, ◌+◌, ◌≤◌, ◌<◌}
use native.Mathlib.Omega.{arith}
use Rattle.std.proofs.Math.Seq.{take-suc}
use Rattle.lists.specs.Lists.{count}

module _ {A : Type 0} (f : A → Bool) where
  pub count_append : (xs ys : List A) → count f (xs ++ ys) ≡ count f xs + count f ys
  unfolding count
  count_append [] ys = sym (zero-add (count f ys))
  count_append (x ∷ xs) ys = go (f x) (count_append xs ys)
    where
      go : (t : Bool) → count f (xs ++ ys) ≡ count f xs + count f ys →
          cond t (suc (count f (xs ++ ys))) (count f (xs ++ ys)) ≡ cond t (suc (count f xs)) (count f xs) + count f ys
      go true e = omega arith
      go false e = e

  -- one entry more counts if it passes
  pub count_take : (xs : List A) (i : ℕ) (d : A) → i < length xs → count f (take (i + 1) xs) ≡ cond (f (get_or xs i d)) (count f (take i xs) + 1) (count f (take i xs))
  unfolding count
  count_take xs i d h = rw (add-one, take-suc xs i d h) (count_append (take i xs) (get_or xs i d ∷ []) ∙ go (f (get_or xs i d)) (count f (take i xs)))
    where
      go : (t : Bool) (n : ℕ) → n + cond t 1 0 ≡ cond t (n + 1) n
      go true n = refl
      go false n = omega arith

  pub count_replicate : (n : ℕ) (x : A) → f x ≡ true → count f (replicate n x) ≡ n
  unfolding count
  count_replicate zero x e = refl
  count_replicate (suc n) x e = rw e (ap suc (count_replicate n x e))

  -- no part has more than the whole
  pub count_part : (i : ℕ) (xs : List A) → count f (take i xs) ≤ count f xs
  unfolding count
  count_part zero xs = omega arith
  count_part (suc i) [] = omega arith
  count_part (suc i) (x ∷ xs) = go (f x) (count_part i xs)
    where
      go : (t : Bool) → count f (take i xs) ≤ count f xs → cond t (suc (count f (take i xs))) (count f (take i xs)) ≤ cond t (suc (count f xs)) (count f xs)
      go true e = omega arith
      go false e = e
