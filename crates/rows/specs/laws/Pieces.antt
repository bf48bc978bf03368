-- A text cut at a byte, piece by piece: where a piece begins and ends, how many there are, and the last.
-- Assumes nothing.
use Rattle.std.specs.Prelude.{◌≡◌, ◌⊎◌, Bool, cond, get_or, take, drop}
use Rattle.std.proofs.Math.Path.{refl, ap}
use Rattle.std.proofs.Common.{sym, ap₂, subst, ◌∙◌, ⊎_elim, add-zero, length-append, length-drop, get_or-drop, drop-drop, eqb-true}
use Rattle.std.proofs.Math.Logic.{inl, inr}
use Rattle.std.proofs.Math.Bool.{true, false}
use mathlib.Core.List.{List, [], ◌∷◌, ◌++◌, cons≢nil, drop_last, get_last_d}
use Prim.Native.Nat.{ℕ, zero, suc, ◌+◌, ◌-◌, ◌≤◌, ◌<◌}
use Rattle.std.proofs.Math.Decide.{dec_lt}
use native.Mathlib.Omega.{arith}
use Rattle.std.proofs.Math.Dec.{eqb}
use Rattle.std.proofs.Math.ListN.{length, get_or-eq_default}
use Rattle.std.proofs.Math.Seq.{drop-nil, take-length, take-append_seam, drop-append-add}
use Rattle.text.specs.Text.{cut, on_first}

last_of : (ps : List (List ℕ)) (i : ℕ) {p : List ℕ} → drop i ps ≡ p ∷ [] → get_last_d ps [] ≡ p
unfolding get_last_d
last_of [] zero h = absurd (cons≢nil (sym h))
last_of [] (suc i) h = absurd (cons≢nil (sym h))
last_of (q ∷ ps) zero h = ap (λ (l : List (List ℕ)). get_last_d l []) h
last_of (q ∷ []) (suc i) h = absurd (cons≢nil (sym h ∙ drop-nil i))
last_of (q ∷ r ∷ ps) (suc i) h = last_of (r ∷ ps) i h

module _ (at : ℕ) where
  -- the text is one piece, or a piece, the byte and the rest
  abbrev Split : List ℕ → List (List ℕ) → Type 0
  Split xs ps = (ps ≡ xs ∷ []) ⊎ ((p : List ℕ) × (ys : List ℕ) × (xs ≡ p ++ (at ∷ ys)) × (ps ≡ p ∷ cut at ys))

  cut_split : (xs : List ℕ) → Split xs (cut at xs)
  unfolding cut
  cut_split [] = inl refl
  cut_split (b ∷ bs) = go (eqb b at) refl (cut_split bs)
    where
      go : (t : Bool) → eqb b at ≡ t → Split bs (cut at bs) → Split (b ∷ bs) (cond t ([] ∷ cut at bs) (on_first b (cut at bs)))
      go true e s = inr ([], bs, ap (λ (x : ℕ). x ∷ bs) (eqb-true b at e), refl)
      go false e (inl h) = inl (rw h (unfold on_first in refl))
      go false e (inr s) = inr (b ∷ s.0, s.1, ap (λ (l : List ℕ). b ∷ l) s.2, rw s.3 (unfold on_first in refl))

  pub cut_some : (xs : List ℕ) → 1 ≤ length (cut at xs)
  cut_some xs = ⊎_elim (λ h. omega (arith, ap length h)) (λ s. omega (arith, ap length s.3)) (cut_split xs)

  pub cut_few : (xs : List ℕ) → length (cut at xs) ≤ length xs + 1
  unfolding cut
  cut_few [] = omega arith
  cut_few (b ∷ bs) = go (eqb b at) (cut at bs) (cut_few bs)
    where
      go : (t : Bool) (ps : List (List ℕ)) → length ps ≤ length bs + 1 → length (cond t ([] ∷ ps) (on_first b ps)) ≤ suc (length bs) + 1
      go true ps h = omega arith
      go false [] h = unfold on_first in omega arith
      go false (p ∷ ps) h = unfold on_first in omega arith

  -- n bytes are the first piece
  record First (xs : List ℕ) (n : ℕ) : Type 0 where
    within : n ≤ length xs
    is : take n xs ≡ get_or (cut at xs) 0 []
    more : n < length xs → cut at xs ≡ take n xs ∷ cut at (drop (n + 1) xs)
    last : n ≡ length xs → cut at xs ≡ xs ∷ []

  abbrev first_length : List ℕ → ℕ
  first_length xs = length (get_or (cut at xs) 0 [])

  first_all : (xs : List ℕ) → cut at xs ≡ xs ∷ [] → First xs (length xs)
  first_all xs h = record { within = omega arith; is = rw h (take-length xs); more = λ l. absurd (omega arith); last = λ e. h }

  first_part : (p ys : List ℕ) → cut at (p ++ (at ∷ ys)) ≡ p ∷ cut at ys → First (p ++ (at ∷ ys)) (length p)
  first_part p ys h = record {
    within = omega (arith, length-append p (at ∷ ys));
    is = rw h (take-append_seam p (at ∷ ys));
    more = λ l. h ∙ ap₂ (λ (q zs : List ℕ). q ∷ cut at zs) (sym (take-append_seam p (at ∷ ys))) (sym (drop-append-add p (at ∷ ys) 1));
    last = λ e. absurd (omega (arith, length-append p (at ∷ ys)));
  }

  first_of_lem : (xs : List ℕ) → First xs (first_length xs)
  first_of_lem xs = ⊎_elim whole part (cut_split xs)
    where
      whole : cut at xs ≡ xs ∷ [] → First xs (first_length xs)
      whole h = rw (ap (λ (ps : List (List ℕ)). length (get_or ps 0 [])) h) (first_all xs h)

      part : (p : List ℕ) × (ys : List ℕ) × (xs ≡ p ++ (at ∷ ys)) × (cut at xs ≡ p ∷ cut at ys) → First xs (first_length xs)
      part s =
          rw (ap (λ (ps : List (List ℕ)). length (get_or ps 0 [])) s.3)
          (subst (λ (l : List ℕ). First l (length s.0)) (sym s.2) (first_part s.0 s.1 (rw s.2 at s.3)))

  -- ---- what is known of all pieces, and of one

  pub record Counted (xs : List ℕ) (count last : ℕ) : Type 0 where
    pub counted : length (cut at xs) ≡ count
    pub last_inside : last ≤ length xs
    pub last_piece_lem : get_last_d (cut at xs) [] ≡ drop last xs

  pub record IsPiece (xs : List ℕ) (i from to : ℕ) : Type 0 where
    pub ordered : from ≤ to
    pub to_inside : to ≤ length xs
    pub is_piece : take (to - from) (drop from xs) ≡ get_or (cut at xs) i []

  -- ---- piece i begins here

  pub record Begins (xs : List ℕ) (i from : ℕ) : Type 0 where
    pub inside : from ≤ length xs
    pub rest : drop i (cut at xs) ≡ cut at (drop from xs)

  pub begins_first : (xs : List ℕ) → Begins xs 0 0
  begins_first xs = record { inside = omega arith; rest = refl }

  module _ {xs : List ℕ} {i from e : ℕ} (b : Begins xs i from) (ends : e ≡ from + first_length (drop from xs)) where
    here : First (drop from xs) (first_length (drop from xs))
    here = first_of_lem (drop from xs)

    pub ends_after : from ≤ e
    ends_after = omega arith

    pub ends_inside : e ≤ length xs
    ends_inside = omega (arith, here.within, length-drop from xs, b.inside)

    size : e - from ≡ first_length (drop from xs)
    size = omega arith

    pub piece_is : take (e - from) (drop from xs) ≡ get_or (cut at xs) i []
    piece_is =
        ap (λ (n : ℕ). take n (drop from xs)) size
        ∙ here.is
        ∙ ap (λ (ps : List (List ℕ)). get_or ps 0 []) (sym b.rest)
        ∙ get_or-drop i (cut at xs) 0 []
        ∙ ap (λ (n : ℕ). get_or (cut at xs) n []) (add-zero i)

    go_on : e < length xs → drop i (cut at xs) ≡ take (e - from) (drop from xs) ∷ cut at (drop (e + 1) xs)
    go_on l =
        let past : from + (first_length (drop from xs) + 1) ≡ e + 1 = omega arith in
        b.rest
        ∙ here.more (omega (arith, length-drop from xs, b.inside))
        ∙ ap₂ (λ (n : ℕ) (zs : List ℕ). take n (drop from xs) ∷ cut at zs) (sym size)
        (drop-drop (first_length (drop from xs) + 1) from xs ∙ ap (λ (n : ℕ). drop n xs) past)

    pub begins_next : e < length xs → Begins xs (i + 1) (e + 1)
    begins_next l = record {
      inside = omega arith;
      rest = sym (drop-drop 1 i (cut at xs)) ∙ ap (λ (ps : List (List ℕ)). drop 1 ps) (go_on l);
    }

    pub pieces_more : e < length xs → i + 1 < length (cut at xs)
    pieces_more l = omega (arith, length-drop i (cut at xs), ap length (go_on l), cut_some (drop (e + 1) xs))

    the_last : e ≡ length xs → drop i (cut at xs) ≡ drop from xs ∷ []
    the_last l = b.rest ∙ here.last (omega (arith, length-drop from xs, b.inside))

    pub pieces_all : e ≡ length xs → length (cut at xs) ≡ i + 1
    pieces_all l = omega (arith, length-drop i (cut at xs), ap length (the_last l))

    -- a piece that is not the last ends before the end
    pub ends_before : i + 1 < length (cut at xs) → e < length xs
    ends_before h = elim (dec_lt e (length xs)) [
      | yes l ↦ l
      | no l ↦ let all : e ≡ length xs = omega (arith, ends_inside) in absurd (omega (arith, pieces_all all))
    ]

    pub last_is : e ≡ length xs → get_last_d (cut at xs) [] ≡ drop from xs
    last_is l = last_of (cut at xs) i (the_last l)

    -- ---- what the functions over pieces say

    pub counted_all : e ≡ length xs → Counted xs (i + 1) from
    counted_all l = record { counted = pieces_all l; last_inside = b.inside; last_piece_lem = last_is l }

    pub piece_here : IsPiece xs i from e
    piece_here = record { ordered = ends_after; to_inside = ends_inside; is_piece = piece_is }

    -- past the last piece there is nothing
    pub piece_none : e ≡ length xs → (n : ℕ) → i < n → IsPiece xs n e e
    piece_none l n h =
        let none : e - e ≡ 0 = omega arith in
        record {
          ordered = omega arith;
          to_inside = omega arith;
          is_piece =
              ap (λ (m : ℕ). take m (drop e xs)) none
              ∙ sym (get_or-eq_default (cut at xs) [] (omega (arith, pieces_all l)));
        }

-- ---- all pieces but the last

module _ {A : Type 0} where
  pub front_length : (ps : List A) → length (drop_last ps) ≡ length ps - 1
  front_length [] = refl
  front_length (p ∷ []) = refl
  front_length (p ∷ q ∷ ps) = omega (arith, front_length (q ∷ ps))

  pub front_at : (ps : List A) (i : ℕ) (d : A) → i + 1 < length ps → get_or (drop_last ps) i d ≡ get_or ps i d
  front_at [] i d h = absurd (omega arith)
  front_at (p ∷ []) i d h = absurd (omega arith)
  front_at (p ∷ q ∷ ps) zero d h = refl
  front_at (p ∷ q ∷ ps) (suc i) d h = front_at (q ∷ ps) i d (omega arith)
