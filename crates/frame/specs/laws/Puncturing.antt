-- Puncturing and spreading, one place at a time; and that a spread frame has every sent value in its place and d elsewhere.
-- Assumes nothing.
use Rattle.std.specs.Prelude.{◌≡◌, Bool, cond, length, get_or, set}
use Rattle.std.proofs.Math.Path.{refl, sym, ap}
use Rattle.std.proofs.Common.{◌∙◌, suc-ne-zero, add-one, arith, take-suc-set, length-take-le}
use Rattle.std.proofs.Math.Bool.{true, false}
use mathlib.Core.List.{List, [], ◌∷◌, ◌++◌, append-nil}
use Prim.Native.Nat.{ℕ, zero, suc, ◌+◌, ◌<◌}
use Rattle.std.proofs.Math.Nat.{suc_inj}
use Rattle.std.proofs.Math.ListN.{take}
use Rattle.std.proofs.Math.Seq.{take-suc, take_all}
use Rattle.lists.specs.Lists.{count}
use Rattle.lists.specs.laws.Counts.{count_take, count_part}
use Rattle.frame.specs.Frame.{puncture, spread}

abbrev set? : Bool → Bool
set? b = b

-- how many of the places before i are sent
abbrev pub sent_to : List Bool → ℕ → ℕ
sent_to fs i = count (λ (b : Bool). b) (take i fs)

pub sent_more : (fs : List Bool) (i : ℕ) → i < length fs → sent_to fs (i + 1) ≡ cond (get_or fs i false) (sent_to fs i + 1) (sent_to fs i)
sent_more fs i h = count_take set? fs i false h

-- a place that is sent finds room in a list of all that are
pub sent_room : (fs : List Bool) (i : ℕ) → i < length fs → get_or fs i false ≡ true → sent_to fs i < count (λ (b : Bool). b) fs
sent_room fs i h e =
    let m : sent_to fs (i + 1) ≡ sent_to fs i + 1 = sent_more fs i h ∙ rw e in
    omega (arith, m, count_part set? (i + 1) fs)

module _ {A : Type 0} where
  puncture_append : (fs gs : List Bool) (xs ys : List A) → length fs ≡ length xs → puncture (fs ++ gs) (xs ++ ys) ≡ puncture fs xs ++ puncture gs ys
  unfolding puncture
  puncture_append [] gs [] ys e = refl
  puncture_append [] gs (x ∷ xs) ys e = absurd (suc-ne-zero (length xs) (sym e))
  puncture_append (f ∷ fs) gs [] ys e = absurd (suc-ne-zero (length fs) e)
  puncture_append (true ∷ fs) gs (x ∷ xs) ys e = ap (λ (l : List A). x ∷ l) (puncture_append fs gs xs ys (suc_inj e))
  puncture_append (false ∷ fs) gs (x ∷ xs) ys e = puncture_append fs gs xs ys (suc_inj e)

  puncture_one : (f : Bool) (x : A) → puncture (f ∷ []) (x ∷ []) ≡ cond f (x ∷ []) []
  unfolding puncture
  puncture_one true x = refl
  puncture_one false x = refl

  pub puncture_length : (fs : List Bool) (xs : List A) → length xs ≡ length fs → length (puncture fs xs) ≡ count (λ (b : Bool). b) fs
  unfolding puncture count
  puncture_length [] xs e = refl
  puncture_length (f ∷ fs) [] e = absurd (suc-ne-zero (length fs) (sym e))
  puncture_length (true ∷ fs) (x ∷ xs) e = ap suc (puncture_length fs xs (suc_inj e))
  puncture_length (false ∷ fs) (x ∷ xs) e = puncture_length fs xs (suc_inj e)

  module _ (d : A) (fs : List Bool) (xs : List A) (same : length xs ≡ length fs) where
    -- the sent values of the places before i
    pub punctured_to : ℕ → List A
    punctured_to i = puncture (take i fs) (take i xs)

    punctured_next : (i : ℕ) → i < length fs → punctured_to (i + 1) ≡ punctured_to i ++ cond (get_or fs i false) (get_or xs i d ∷ []) []
    unfolding punctured_to
    punctured_next i h =
        rw (add-one, take-suc fs i false h, take-suc xs i d (omega arith))
        (puncture_append (take i fs) _ (take i xs) _ (length-take-le i fs (omega arith) ∙ sym (length-take-le i xs (omega arith)))
        ∙ ap (λ (l : List A). puncture (take i fs) (take i xs) ++ l) (puncture_one (get_or fs i false) (get_or xs i d)))

    -- a list whose front is what was sent so far
    pub record Sent (out : List A) (i : ℕ) : Type 0 where
      pub front : take (sent_to fs i) out ≡ punctured_to i

    pub sent_none : (out : List A) → Sent out 0
    unfolding punctured_to puncture count
    sent_none out = record { front = refl }

    pub sent_next : {out : List A} {i : ℕ} → i < length fs → (get_or fs i false ≡ true → sent_to fs i < length out) → Sent out i →
        Sent (cond (get_or fs i false) (set out (sent_to fs i) (get_or xs i d)) out) (i + 1)
    sent_next {out} {i} h room w = record { front = rw (sent_more fs i h, punctured_next i h) (go (get_or fs i false) room) }
      where
        go : (f : Bool) → (f ≡ true → sent_to fs i < length out) →
            take (cond f (sent_to fs i + 1) (sent_to fs i)) (cond f (set out (sent_to fs i) (get_or xs i d)) out) ≡ punctured_to i ++ cond f (get_or xs i d ∷ []) []
        go true r = rw (add-one, take-suc-set out (sent_to fs i) (get_or xs i d) (r refl)) (ap (λ (l : List A). l ++ (get_or xs i d ∷ [])) w.front)
        go false r = w.front ∙ sym (append-nil _)

    pub sent_all : {out : List A} → length out ≡ count (λ (b : Bool). b) fs → Sent out (length fs) → out ≡ puncture fs xs
    unfolding punctured_to
    sent_all {out} e w =
        let f : take (length fs) fs ≡ fs = take_all (length fs) fs (omega arith) in
        let x : take (length fs) xs ≡ xs = take_all (length fs) xs (omega arith) in
        sym (take_all (count set? fs) out (omega arith)) ∙ (rw (f, x) at w.front)

  -- ---- spreading

  module _ (d : A) where
    pub spread_length : (fs : List Bool) (xs : List A) → length (spread d fs xs) ≡ length fs
    unfolding spread
    spread_length [] xs = refl
    spread_length (true ∷ fs) [] = ap suc (spread_length fs [])
    spread_length (true ∷ fs) (x ∷ xs) = ap suc (spread_length fs xs)
    spread_length (false ∷ fs) xs = ap suc (spread_length fs xs)

    -- a place that is sent has the value whose turn it is, and any other has d
    pub spread_at_lem : (fs : List Bool) (xs : List A) (i : ℕ) → get_or (spread d fs xs) i d ≡ cond (get_or fs i false) (get_or xs (sent_to fs i) d) d
    unfolding spread count
    spread_at_lem [] xs i = refl
    spread_at_lem (true ∷ fs) [] zero = refl
    spread_at_lem (true ∷ fs) [] (suc i) = spread_at_lem fs [] i
    spread_at_lem (true ∷ fs) (x ∷ xs) zero = refl
    spread_at_lem (true ∷ fs) (x ∷ xs) (suc i) = spread_at_lem fs xs i
    spread_at_lem (false ∷ fs) xs zero = refl
    spread_at_lem (false ∷ fs) xs (suc i) = spread_at_lem fs xs i

    -- what spreading makes of a punctured frame: every sent value in its place, and d in every other
    pub spread_punctured :
        (fs : List Bool) (xs : List A) (i : ℕ) → length xs ≡ length fs →
        get_or (spread d fs (puncture fs xs)) i d ≡ cond (get_or fs i false) (get_or xs i d) d
    unfolding spread puncture
    spread_punctured [] xs i e = refl
    spread_punctured (f ∷ fs) [] i e = absurd (suc-ne-zero (length fs) (sym e))
    spread_punctured (true ∷ fs) (x ∷ xs) zero e = refl
    spread_punctured (true ∷ fs) (x ∷ xs) (suc i) e = spread_punctured fs xs i (suc_inj e)
    spread_punctured (false ∷ fs) (x ∷ xs) zero e = refl
    spread_punctured (false ∷ fs) (x ∷ xs) (suc i) e = spread_punctured fs xs i (suc_inj e)

    -- and puncturing what was spread gives it back, where there is a value for each place that is sent
    punctured_spread : (fs : List Bool) (xs : List A) → length xs ≡ count (λ (b : Bool). b) fs → puncture fs (spread d fs xs) ≡ xs
    unfolding spread puncture count
    punctured_spread [] [] e = refl
    punctured_spread [] (x ∷ xs) e = absurd (suc-ne-zero (length xs) e)
    punctured_spread (true ∷ fs) [] e = absurd (suc-ne-zero (count set? fs) (sym e))
    punctured_spread (true ∷ fs) (x ∷ xs) e = ap (λ (l : List A). x ∷ l) (punctured_spread fs xs (suc_inj e))
    punctured_spread (false ∷ fs) xs e = punctured_spread fs xs e

    -- so two such lists that are spread alike are the same
    pub spread_injective :
        (fs : List Bool) (xs ys : List A) → length xs ≡ count (λ (b : Bool). b) fs → length ys ≡ count (λ (b : Bool). b) fs → spread d fs xs ≡ spread d fs ys →
        xs ≡ ys
    spread_injective fs xs ys long also e = sym (punctured_spread fs xs long) ∙ ap (puncture fs) e ∙ punctured_spread fs ys also
