-- What the functions that look at a text go by, as sets of laws: a definition at each of its tests, as the code makes them.
-- Assumes nothing.
use Rattle.std.specs.Prelude.{◌≡◌, refl, true, false, cond, List, [], ◌∷◌, ℕ, suc, ◌+◌, ◌-◌, ◌≤◌, ◌<◌, eqb, nat_eq, length, get_or, take, drop, count_by}
use Rattle.std.specs.List.{starts_with as front_is}
use Rattle.std.specs.Cmp.Lexicographic.{pointwise}
use Rattle.std.proofs.Common.{sym, ap, ◌∙◌, arith, eq-eqb, ne_eqb, lt-ltb, le-ltb}
use Rattle.std.proofs.Math.ListN.{get_or-eq_default}
use Rattle.std.proofs.Math.Bool.{and-false, or-true}
use Rattle.std.proofs.Math.Decide.{ℕ_discrete}
use Rattle.std.proofs.lemmas.List.Recursion.{is_count_by}
use Rattle.lists.specs.Lists.{count}
use Rattle.text.specs.Text.{line_feed, same}
use Rattle.hints.specs.Hints.{hint, line_of, starts_with, is_wide, byte_at, space_at, last_line, line_hint, hint_of}
use Rattle.hints.specs.laws.Seeing.{some_not_empty, none_empty, space_here, space_past}

-- ---- two bytes a character, by the first two

pub wide_first : (t : List ℕ) → 1 ≤ length t → get_or t 0 0 ≡ 0 → is_wide t ≡ true
unfolding is_wide
wide_first [] h e = absurd (omega arith)
wide_first (x ∷ xs) h e = rw (eq-eqb x 0 e) refl

pub narrow_none : (t : List ℕ) → length t < 1 → is_wide t ≡ false
unfolding is_wide starts_with same
narrow_none [] h = refl
narrow_none (x ∷ xs) h = absurd (omega arith)

pub narrow_one : (t : List ℕ) → length t < 2 → (get_or t 0 0 ≡ 0 → ⊥) → is_wide t ≡ false
unfolding is_wide starts_with same
narrow_one [] h d = absurd (d refl)
narrow_one (x ∷ []) h d = rw (ne_eqb x 0 d) (rw (and-false (eqb x 255), and-false (eqb x 254)) refl)
narrow_one (x ∷ y ∷ xs) h d = absurd (omega arith)

-- what is said of texts of two bytes or more
two : (P : List ℕ → Type 0) → ((x y : ℕ) (xs : List ℕ) → P (x ∷ y ∷ xs)) → (t : List ℕ) → 2 ≤ length t → P t
two P go [] h = absurd (omega arith)
two P go (x ∷ []) h = absurd (omega arith)
two P go (x ∷ y ∷ xs) h = go x y xs

module _ (t : List ℕ) (long : 2 ≤ length t) where
  pub wide_second : get_or t 1 0 ≡ 0 → is_wide t ≡ true
  unfolding is_wide
  wide_second =
      two (λ t. get_or t 1 0 ≡ 0 → is_wide t ≡ true)
      (λ x y xs e. rw (eq-eqb y 0 e, or-true (eqb x 0)) refl) t long

  pub wide_mark : get_or t 0 0 ≡ 255 → get_or t 1 0 ≡ 254 → is_wide t ≡ true
  unfolding is_wide starts_with same
  wide_mark =
      two (λ t. get_or t 0 0 ≡ 255 → get_or t 1 0 ≡ 254 → is_wide t ≡ true)
      (λ x y xs a b. rw (a, b) refl) t long

  pub wide_turned : get_or t 0 0 ≡ 254 → get_or t 1 0 ≡ 255 → is_wide t ≡ true
  unfolding is_wide starts_with same
  wide_turned =
      two (λ t. get_or t 0 0 ≡ 254 → get_or t 1 0 ≡ 255 → is_wide t ≡ true)
      (λ x y xs a b. rw (a, b) refl) t long

  pub narrow : (get_or t 0 0 ≡ 0 → ⊥) → (get_or t 1 0 ≡ 0 → ⊥) → (get_or t 0 0 ≡ 255 → ⊥) → (get_or t 0 0 ≡ 254 → ⊥) → is_wide t ≡ false
  unfolding is_wide starts_with same
  narrow =
      two (λ t. (get_or t 0 0 ≡ 0 → ⊥) → (get_or t 1 0 ≡ 0 → ⊥) → (get_or t 0 0 ≡ 255 → ⊥) → (get_or t 0 0 ≡ 254 → ⊥) → is_wide t ≡ false)
      (λ x y xs a b c d. rw (ne_eqb x 0 a, ne_eqb y 0 b, ne_eqb x 255 c, ne_eqb x 254 d) refl) t long

  pub narrow_255 : get_or t 0 0 ≡ 255 → (get_or t 1 0 ≡ 0 → ⊥) → (get_or t 1 0 ≡ 254 → ⊥) → is_wide t ≡ false
  unfolding is_wide starts_with same
  narrow_255 =
      two (λ t. get_or t 0 0 ≡ 255 → (get_or t 1 0 ≡ 0 → ⊥) → (get_or t 1 0 ≡ 254 → ⊥) → is_wide t ≡ false)
      (λ x y xs a b c. rw (a, ne_eqb y 0 b, ne_eqb y 254 c) refl) t long

  pub narrow_254 : get_or t 0 0 ≡ 254 → (get_or t 1 0 ≡ 0 → ⊥) → (get_or t 1 0 ≡ 255 → ⊥) → is_wide t ≡ false
  unfolding is_wide starts_with same
  narrow_254 =
      two (λ t. get_or t 0 0 ≡ 254 → (get_or t 1 0 ≡ 0 → ⊥) → (get_or t 1 0 ≡ 255 → ⊥) → is_wide t ≡ false)
      (λ x y xs a b c. rw (a, ne_eqb y 0 b, ne_eqb y 255 c) refl) t long

pub ruleset wide = (wide_first, narrow_none, narrow_one, wide_second, wide_mark, wide_turned, narrow, narrow_255, narrow_254)

-- ---- a front, as std compares it

eqb_swap : (x y : ℕ) → eqb x y ≡ eqb y x
eqb_swap x y = elim (ℕ_discrete x y) [ yes e ↦ rw e refl | no d ↦ ne_eqb x y d ∙ sym (ne_eqb y x (λ e. d (sym e))) ]

front_same : (xs ys : List ℕ) → pointwise nat_eq xs ys ≡ same ys xs
unfolding same
front_same [] [] = refl
front_same [] (y ∷ ys) = refl
front_same (x ∷ xs) [] = refl
front_same (x ∷ xs) (y ∷ ys) = rw (eqb_swap x y, front_same xs ys) refl

starts_told : (front text : List ℕ) → front_is nat_eq text front ≡ starts_with front text
unfolding starts_with
starts_told front text = front_same front (take (length front) text)

-- ---- lines

-- the line feeds of a text, as they are counted
pub feeds_counted : (text : List ℕ) → count_by (λ b. eqb b 10) text ≡ count (λ b. eqb b line_feed) text
unfolding count
feeds_counted text = sym (is_count_by (count (λ b. eqb b line_feed)) (λ b. eqb b 10) refl (λ x xs. ap (λ n. cond (eqb x 10) n (count (λ b. eqb b line_feed) xs)) (omega arith)) text)

-- from an index on: a space and a line feed, or none there
module _ (text : List ℕ) (i : ℕ) (h : i < length text) where
  pub space_hit : get_or text i 0 ≡ 32 → get_or text (i + 1) 0 ≡ 10 → space_at (drop i text) ≡ 0
  space_hit e f = space_here text i h (rw (e, f))

  pub no_space : (get_or text i 0 ≡ 32 → ⊥) → space_at (drop i text) ≡ suc (space_at (drop (i + 1) text))
  no_space d = space_past text i h (rw (ne_eqb _ 32 d))

  pub no_feed : (get_or text (i + 1) 0 ≡ 10 → ⊥) → space_at (drop i text) ≡ suc (space_at (drop (i + 1) text))
  no_feed d = space_past text i h (rw (ne_eqb _ 10 d) (and-false (eqb (get_or text i 0) 32)))

  pub no_byte : length text ≤ i + 1 → space_at (drop i text) ≡ suc (space_at (drop (i + 1) text))
  no_byte l = no_feed (λ e. let z = get_or-eq_default text 0 {n = i + 1} l in omega arith)

-- ---- the last line

module _ (t : List ℕ) where
  pub unended : (get_or t (length t - 1) 0 ≡ 10 → ⊥) → last_line t ≡ hint 8 (line_of t (length t - 1))
  unfolding last_line
  unended d = rw (ne_eqb (get_or t (length t - 1) 0) 10 d) refl

  pub one_feed : length t ≡ 1 → get_or t 0 0 ≡ 10 → last_line t ≡ hint 7 (line_of t (length t - 1))
  unfolding last_line
  one_feed l e = rw (l) (rw (eq-eqb (get_or t 0 0) 10 e) refl)

  pub two_feeds : get_or t (length t - 1) 0 ≡ 10 → get_or t (length t - 2) 0 ≡ 10 → last_line t ≡ hint 7 (line_of t (length t - 1))
  unfolding last_line
  two_feeds e f =
      let same_place : length t - 1 - 1 ≡ length t - 2 = omega arith in
      rw (eq-eqb (get_or t (length t - 1) 0) 10 e, same_place, eq-eqb (get_or t (length t - 2) 0) 10 f, or-true (eqb (length t - 1) 0)) refl

  pub ended : 2 ≤ length t → get_or t (length t - 1) 0 ≡ 10 → (get_or t (length t - 2) 0 ≡ 10 → ⊥) → last_line t ≡ hint 0 0
  unfolding last_line
  ended l e d =
      let same_place : length t - 1 - 1 ≡ length t - 2 = omega arith in
      let more : length t - 1 ≡ 0 → ⊥ = omega arith in
      rw (eq-eqb (get_or t (length t - 1) 0) 10 e, same_place, ne_eqb (get_or t (length t - 2) 0) 10 d, ne_eqb (length t - 1) 0 more) refl

  -- ---- what the lines show, each kind in turn

  pub return_seen : byte_at 13 t < length t → line_hint t ≡ hint 4 (line_of t (byte_at 13 t))
  unfolding line_hint
  return_seen h = rw (lt-ltb (byte_at 13 t) (length t) h) refl

  pub tab_seen : length t ≤ byte_at 13 t → byte_at 9 t < length t → line_hint t ≡ hint 5 (line_of t (byte_at 9 t))
  unfolding line_hint
  tab_seen g h = rw (le-ltb (byte_at 13 t) (length t) g, lt-ltb (byte_at 9 t) (length t) h) refl

  pub space_seen : length t ≤ byte_at 13 t → length t ≤ byte_at 9 t → space_at t < length t → line_hint t ≡ hint 6 (line_of t (space_at t))
  unfolding line_hint
  space_seen f g h = rw (le-ltb (byte_at 13 t) (length t) f, le-ltb (byte_at 9 t) (length t) g, lt-ltb (space_at t) (length t) h) refl

  pub last_seen : length t ≤ byte_at 13 t → length t ≤ byte_at 9 t → length t ≤ space_at t → line_hint t ≡ last_line t
  unfolding line_hint
  last_seen f g h = rw (le-ltb (byte_at 13 t) (length t) f, le-ltb (byte_at 9 t) (length t) g, le-ltb (space_at t) (length t) h) refl

  -- ---- what is seen of the whole, each kind in turn

  pub seen_empty : length t ≡ 0 → hint_of t ≡ hint 1 0
  unfolding hint_of
  seen_empty e = rw (none_empty t e) refl

  module _ (some : length t ≡ 0 → ⊥) where
    pub seen_wide : is_wide t ≡ true → hint_of t ≡ hint 2 0
    unfolding hint_of
    seen_wide e = rw (some_not_empty t some, e) refl

    module _ (plain : is_wide t ≡ false) where
      pub seen_mark : front_is nat_eq t (239 ∷ 187 ∷ 191 ∷ []) ≡ true → hint_of t ≡ hint 3 0
      unfolding hint_of
      seen_mark e = rw (some_not_empty t some, plain, sym (starts_told (239 ∷ 187 ∷ 191 ∷ []) t) ∙ e) refl

      module _ (unmarked : front_is nat_eq t (239 ∷ 187 ∷ 191 ∷ []) ≡ false) where
        pub seen_long : 16384 < length t → hint_of t ≡ hint 9 0
        unfolding hint_of
        seen_long h = rw (some_not_empty t some, plain, sym (starts_told (239 ∷ 187 ∷ 191 ∷ []) t) ∙ unmarked, lt-ltb 16384 (length t) h) refl

        pub seen_lines : length t ≤ 16384 → hint_of t ≡ line_hint t
        unfolding hint_of
        seen_lines h = rw (some_not_empty t some, plain, sym (starts_told (239 ∷ 187 ∷ 191 ∷ []) t) ∙ unmarked, le-ltb 16384 (length t) h) refl

pub ruleset hints = (seen_empty, seen_wide, seen_mark, seen_long, seen_lines)

pub ruleset last_lines = (unended, one_feed, two_feeds, ended)

pub ruleset line_hints = (return_seen, tab_seen, space_seen, last_seen)
