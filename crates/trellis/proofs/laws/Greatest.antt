-- What `greatest` and `best` are: the greatest of a list is in it and nothing in it is greater; the best metric of a class is that of one
-- of its paths, no path of the class has more, and only an empty class has none.
-- Assumes nothing.
use Rattle.std.specs.Prelude.{◌≡◌, refl, ◌↔◌, ℕ, ℤ, ◌≤ℤ◌}
use Rattle.std.proofs.Common.{sym, ap, ◌∙◌, ⊎_elim}
use Rattle.std.proofs.Math.Logic.Iff
use mathlib.Core.List.Memᴰ
use mathlib.Core.List.{List, [], ◌∷◌, map, map-eq-nil_iff, Memᴰ}
use Rattle.std.proofs.Math.Option.{none, some, some-ne-none, none-ne-some}
use Rattle.lists.specs.laws.Keep.{empty_exactly}
use Rattle.trellis.specs.declared.End.{End}
use Rattle.trellis.specs.Table.{Table}
use Rattle.trellis.specs.Path.{Values, TrellisPath, metric, class}
use Rattle.trellis.specs.Outcome.{larger, greatest, best}
use Rattle.trellis.specs.Best.{InClass, IsBest}
use Rattle.trellis.proofs.laws.Listing.{class_is, class_is_empty}
use Rattle.trellis.specs.laws.MaxPlus.{◌⊑◌, nothing, both, ⊑_known, ⊑_trans, ⊑_antisym, larger_left, larger_right, larger_least, larger_either}

-- ---- of a list

-- m is in the list, and nothing in the list is greater
pub record IsGreatest (xs : List ℤ) (m : ℤ) : Type 0 where
  pub member : Memᴰ m xs
  pub bound : (x : ℤ) → Memᴰ x xs → x ≤ℤ m

greatest_above : {x : ℤ} {xs : List ℤ} → Memᴰ x xs → some x ⊑ greatest xs
unfolding greatest
greatest_above (Memᴰ.head {x = y} {xs = ys} e) = rw e (larger_left (some y) (greatest ys))
greatest_above (Memᴰ.tail {x = y} {xs = ys} m) = ⊑_trans (greatest_above m) (larger_right (some y) (greatest ys))

greatest_least : (xs : List ℤ) {m : ℤ} → ((x : ℤ) → Memᴰ x xs → x ≤ℤ m) → greatest xs ⊑ some m
unfolding greatest
greatest_least [] h = nothing
greatest_least (x ∷ xs) h = larger_least (both (h x (Memᴰ.head refl))) (greatest_least xs (λ y m. h y (Memᴰ.tail m)))

greatest_in : (xs : List ℤ) {m : ℤ} → greatest xs ≡ some m → Memᴰ m xs
unfolding greatest
greatest_in [] e = absurd (none-ne-some _ e)
greatest_in (x ∷ xs) {m} e =
    ⊎_elim
    (λ (q : larger (some x) (greatest xs) ≡ greatest xs). Memᴰ.tail (greatest_in xs (sym q ∙ e)))
    (λ (q : larger (some x) (greatest xs) ≡ some x). let p : m ≡ x = cc in Memᴰ.head p)
    (larger_either (some x) (greatest xs))

pub greatest_is_some : (xs : List ℤ) (m : ℤ) → (greatest xs ≡ some m) ↔ IsGreatest xs m
greatest_is_some xs m = (there, λ h. ⊑_antisym (greatest_least xs h.bound) (greatest_above h.member))
  where
    there : greatest xs ≡ some m → IsGreatest xs m
    there e = record { member = greatest_in xs e; bound = λ x i. ⊑_known (rw e at (greatest_above i)) }

pub greatest_is_none : (xs : List ℤ) → (greatest xs ≡ none) ↔ (xs ≡ [])
unfolding greatest
greatest_is_none xs = (λ e. (empty_exactly xs).1 (λ x m. some-ne-none x (⊑_antisym (rw e at (greatest_above m)) nothing)), λ e. ap greatest e)

pub greatest_map_is_none : {A : Type 0} (f : A → ℤ) (xs : List A) → (greatest (map f xs) ≡ none) ↔ (xs ≡ [])
greatest_map_is_none f xs = Iff.trans (greatest_is_none (map f xs)) (map-eq-nil_iff f)

-- ---- of a class

module _ (t : Table) (v : Values) (end : End) (n k b : ℕ) where
  metrics : List ℤ
  metrics = map (metric t v) (class t end n k b)

  pub best_is_some : (m : ℤ) → (best t v end n k b ≡ some m) ↔ IsBest t v end n k b m
  unfolding best metrics
  best_is_some m = (λ e. there ((greatest_is_some metrics m).0 e), λ h. (greatest_is_some metrics m).1 (back h))
    where
      there : IsGreatest metrics m → IsBest t v end n k b m
      there h =
          let r = Memᴰ.of_map (metric t v) (class t end n k b) h.member in
          record {
            path = r.0;
            in_class = (class_is t end n k b r.0).0 r.1;
            has = r.2;
            bound = λ q i. h.bound (metric t v q) (Memᴰ.map (metric t v) ((class_is t end n k b q).1 i));
          }

      back : IsBest t v end n k b m → IsGreatest metrics m
      back h =
          record {
            member = Memᴰ.cast (sym h.has) (Memᴰ.map (metric t v) ((class_is t end n k b h.path).1 h.in_class));
            bound = λ x i. let r = Memᴰ.of_map (metric t v) (class t end n k b) i in rw (← r.2) (h.bound r.0 ((class_is t end n k b r.0).0 r.1));
          }

  -- no values take part: only an empty class has no best metric
  pub best_is_none : (best t v end n k b ≡ none) ↔ (class t end n k b ≡ [])
  unfolding best
  best_is_none = greatest_map_is_none (metric t v) (class t end n k b)

  pub best_is_none_without_paths : (best t v end n k b ≡ none) ↔ ((p : TrellisPath) → ¬ InClass t end n k b p)
  best_is_none_without_paths = Iff.trans best_is_none (class_is_empty t end n k b)
