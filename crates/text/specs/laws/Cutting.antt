-- Laws of `cut`: how many pieces there are, what the first is, and where the byte that ends it stands.
-- Assumes nothing.
use Rattle.std.specs.Prelude.{◌≡◌, Bool, true, false, cond, not, List, [], ◌∷◌, ℕ, zero, suc, ◌+◌, ◌-◌, ◌≤◌, ◌<◌, eqb, length, get_or, take, drop}
use Rattle.std.proofs.Math.Path.{refl}
use Rattle.std.proofs.Common.{sym, ap, ◌∙◌, add-one, arith, length-drop, drop_of_length-le, drop-cons, drop-drop, get_or-drop, eq-eqb, ne_eqb}
use Rattle.std.proofs.Math.Decide.{ℕ_discrete}
use Rattle.lists.specs.Lists.{every, count}
use Rattle.lists.specs.laws.Tests.{and_true}
use Rattle.text.specs.Text.{on_first, cut}

-- the first piece
abbrev pub first : ℕ → List ℕ → List ℕ
first b xs = get_or (cut b xs) 0 []

-- ---- how many pieces

on_first_length : (x : ℕ) (ps : List (List ℕ)) → length (on_first x ps) ≡ length ps
unfolding on_first
on_first_length x [] = refl
on_first_length x (p ∷ ps) = refl

-- one more than the byte occurs
pub cut_length : (b : ℕ) (xs : List ℕ) → length (cut b xs) ≡ suc (count (λ x. eqb x b) xs)
unfolding cut count
cut_length b [] = refl
cut_length b (x ∷ xs) = go (eqb x b) (cut_length b xs)
  where
    n : ℕ
    n = count (λ x. eqb x b) xs

    go : (t : Bool) → length (cut b xs) ≡ suc n → length (cond t ([] ∷ cut b xs) (on_first x (cut b xs))) ≡ suc (cond t (suc n) n)
    go true e = ap suc e
    go false e = on_first_length x (cut b xs) ∙ e

pub cut_some : (b : ℕ) (xs : List ℕ) → 1 ≤ length (cut b xs)
cut_some b xs = omega (arith, cut_length b xs)

pub cut_not_empty : (b : ℕ) (xs : List ℕ) → cut b xs ≡ [] → ⊥
cut_not_empty b xs e = omega (arith, cut_some b xs, ap length e)

-- ---- one byte more in front

-- the byte ends an empty piece
pub cut_here : {x b : ℕ} (xs : List ℕ) → x ≡ b → cut b (x ∷ xs) ≡ [] ∷ cut b xs
unfolding cut
cut_here {x} {b} xs e = rw (eq-eqb x b e)

-- any other goes to the first piece
pub cut_past : {x b : ℕ} (xs : List ℕ) → (x ≡ b → ⊥) → cut b (x ∷ xs) ≡ on_first x (cut b xs)
unfolding cut
cut_past {x} {b} xs d = rw (ne_eqb x b d)

pub first_here : {x b : ℕ} (xs : List ℕ) → x ≡ b → first b (x ∷ xs) ≡ []
first_here xs e = ap (λ ps. get_or ps 0 []) (cut_here xs e)

pub first_past : {x b : ℕ} (xs : List ℕ) → (x ≡ b → ⊥) → first b (x ∷ xs) ≡ x ∷ first b xs
first_past {x} {b} xs d = ap (λ ps. get_or ps 0 []) (cut_past xs d) ∙ go (cut b xs) (cut_some b xs)
  where
    go : (ps : List (List ℕ)) → 1 ≤ length ps → get_or (on_first x ps) 0 [] ≡ x ∷ get_or ps 0 []
    go [] h = absurd (omega arith)
    go (p ∷ ps) h = unfold on_first in refl

pub first_nothing : (b : ℕ) → first b [] ≡ []
unfolding cut
first_nothing b = refl

-- ---- the first piece

-- it doesn't have the byte
pub first_without : (b : ℕ) (xs : List ℕ) → every (λ x. not (eqb x b)) (first b xs) ≡ true
unfolding every
first_without b [] = rw (first_nothing b)
first_without b (x ∷ xs) = elim (ℕ_discrete x b) [
  | yes e ↦ rw (first_here xs e)
  | no d ↦ rw (first_past xs d) (and_true (ap not (ne_eqb x b d)) (first_without b xs))
]

-- it is the front of the text
pub first_front : (b : ℕ) (xs : List ℕ) → first b xs ≡ take (length (first b xs)) xs
first_front b [] = rw (first_nothing b)
first_front b (x ∷ xs) = elim (ℕ_discrete x b) [
  | yes e ↦ rw (first_here xs e)
  | no d ↦ rw (first_past xs d) (ap (λ l. x ∷ l) (first_front b xs))
]

pub first_length_lem : (b : ℕ) (xs : List ℕ) → length (first b xs) ≤ length xs
first_length_lem b [] = rw (first_nothing b) (omega arith)
first_length_lem b (x ∷ xs) = elim (ℕ_discrete x b) [
  | yes e ↦ rw (first_here xs e) (omega arith)
  | no d ↦ rw (first_past xs d) (omega (arith, first_length_lem b xs))
]

-- ---- where it ends

-- before the end of the text: at the byte, and the text after that is cut on
pub record Ends (b : ℕ) (xs : List ℕ) (e : ℕ) : Type 0 where
  pub at : get_or xs e 0 ≡ b
  pub pieces : cut b xs ≡ take e xs ∷ cut b (drop (suc e) xs)

pub cut_within : (b : ℕ) (xs : List ℕ) (e : ℕ) → length (first b xs) ≡ e → e < length xs → Ends b xs e
cut_within b [] e q h = absurd (omega arith)
cut_within b (x ∷ xs) e q h = elim (ℕ_discrete x b) [
  | yes s ↦ here s e (sym q ∙ ap length (first_here xs s))
  | no d ↦ past d e (sym (ap length (first_past xs d)) ∙ q) h (λ n p l. cut_within b xs n p l)
]
  where
    here : x ≡ b → (e : ℕ) → e ≡ 0 → Ends b (x ∷ xs) e
    here s zero q = record { at = s; pieces = cut_here xs s }
    here s (suc e) q = absurd (omega arith)

    past : (x ≡ b → ⊥) → (e : ℕ) → suc (length (first b xs)) ≡ e → e < length (x ∷ xs) →
        ((n : ℕ) → length (first b xs) ≡ n → n < length xs → Ends b xs n) → Ends b (x ∷ xs) e
    past d zero q h on = absurd (omega arith)
    past d (suc e) q h on =
        let rest = on e (omega arith) (omega arith) in
        record { at = rest.at; pieces = cut_past xs d ∙ ap (on_first x) rest.pieces ∙ (unfold on_first in refl) }

-- at the end of the text: there is one piece
pub cut_whole : (b : ℕ) (xs : List ℕ) → length xs ≤ length (first b xs) → cut b xs ≡ xs ∷ []
unfolding cut
cut_whole b [] h = refl
cut_whole b (x ∷ xs) h = elim (ℕ_discrete x b) [
  | yes e ↦ absurd (omega (arith, ap length (first_here xs e)))
  | no d ↦ cut_past xs d ∙ ap (on_first x) (cut_whole b xs (omega (arith, ap length (first_past xs d)))) ∙ (unfold on_first in refl)
]

-- ---- from a position of a text on, as `next_at` goes

-- how far the byte is
abbrev pub far : ℕ → List ℕ → ℕ → ℕ
far b xs i = length (first b (drop i xs))

module _ (b : ℕ) (xs : List ℕ) (i : ℕ) where
  pub far_here : i < length xs → get_or xs i 0 ≡ b → far b xs i ≡ 0
  far_here h e = rw (drop-cons xs i 0 h) (ap length (first_here (drop (suc i) xs) e))

  pub far_past : i < length xs → (get_or xs i 0 ≡ b → ⊥) → far b xs i ≡ suc (far b xs (i + 1))
  far_past h d = rw (add-one i, drop-cons xs i 0 h) (ap length (first_past (drop (suc i) xs) d))

  pub far_end : length xs ≤ i → far b xs i ≡ 0
  far_end h = rw (drop_of_length-le xs h) (ap length (first_nothing b))

  -- not past the end of the text
  pub next_inside : i ≤ length xs → i + length (first b (drop i xs)) ≤ length xs
  next_inside h = omega (arith, first_length_lem b (drop i xs), length-drop i xs)

  -- where the byte is found
  pub next_within : (e : ℕ) → e ≡ i + length (first b (drop i xs)) → e < length xs →
      (get_or xs e 0 ≡ b) × (cut b (drop i xs) ≡ take (e - i) (drop i xs) ∷ cut b (drop (suc e) xs))
  next_within e q h =
      let ends = cut_within b (drop i xs) (e - i) (omega arith) (omega (arith, length-drop i xs)) in
      let back : i + (e - i) ≡ e = omega arith in
      let on : i + suc (e - i) ≡ suc e = omega arith in (
        sym (ap (λ n. get_or xs n 0) back) ∙ sym (get_or-drop i xs (e - i) 0) ∙ ends.at,
        ends.pieces ∙ ap (λ l. take (e - i) (drop i xs) ∷ cut b l) (drop-drop (suc (e - i)) i xs ∙ ap (λ n. drop n xs) on),
      )

  -- where it isn't: the rest of the text is one piece
  pub next_whole : length xs ≤ i + length (first b (drop i xs)) → cut b (drop i xs) ≡ drop i xs ∷ []
  next_whole h = cut_whole b (drop i xs) (omega (arith, length-drop i xs))
