-- The library's words for a text that is split, as the definitions' own; and the pieces counted byte by byte.
-- Assumes nothing.
use Rattle.std.specs.Prelude.{◌≡◌, refl, true, false, cond, List, [], ◌∷◌, ℕ, suc, ◌+◌, ◌-◌, ◌≤◌, ◌<◌, eqb, length, get_or, take, drop, Option, Some, None}
use mathlib.Core.List.{drop_last}
use Rattle.std.specs.List.{slice_get, slice_split, onto_first, enumerate_from}
use Rattle.std.specs.Option.{unwrap_or, option_map}
use Rattle.std.proofs.Common.{sym, ap, ◌∙◌, arith}
use Rattle.std.proofs.Math.Option.{some, none}
use Rattle.std.proofs.lemmas.List.{get_or_default}
use Rattle.std.proofs.lemmas.List.FromFn.{get_or-enumerate_from, length-enumerate_from}
use Rattle.std.proofs.lemmas.Option.{unwrap_or-slice_get}
use denote.Bor.{Bor}
use Rattle.text.specs.Text.{cut, on_first}
use Rattle.text.specs.laws.Cutting.{far, far_here, far_past, far_end}
use Rattle.rows.specs.Lines.{lines_of, line_fits, fault_from}
use Rattle.rows.specs.laws.Fitting.{fault_here, fault_later, fault_none}
use Rattle.rows.specs.laws.Pieces.{cut_some, Begins, begins_first, begins_next, Counted, counted_all, front_length}

pub split_cut : (byte : ℕ) (xs : List ℕ) → slice_split (λ b. eqb b byte) xs ≡ cut byte xs
unfolding cut on_first
split_cut byte [] = refl
split_cut byte (x ∷ xs) = rw (split_cut byte xs) (go (cut byte xs) (cut_some byte xs))
  where
    go : (ps : List (List ℕ)) → 1 ≤ length ps → cond (eqb x byte) ([] ∷ ps) (onto_first x ps) ≡ cond (eqb x byte) ([] ∷ ps) (on_first x ps)
    go [] h = absurd (omega arith)
    go (p ∷ ps) h = refl

-- the piece that is asked for, or nothing
pub nth_or : (r : Option (Bor (List ℕ))) (d : Bor (List ℕ)) (ls : List (List ℕ)) (i : ℕ) → option_map (λ x. x.now) r ≡ slice_get ls i → d.now ≡ []
    → (unwrap_or r d).now ≡ get_or ls i []
nth_or None d ls i e f = f ∙ ap (λ o. unwrap_or o []) e ∙ unwrap_or-slice_get ls i []
nth_or (Some x) d ls i e f = ap (λ o. unwrap_or o []) e ∙ unwrap_or-slice_get ls i []

-- ---- pieces counted byte by byte

-- the piece after the ended ones begins at `last`, and its end is as far from there as from i with what was passed
pub record Counting (byte : ℕ) (bytes : List ℕ) (ended last i : ℕ) : Type 0 where
  pub few : ended ≤ i
  pub begun : Begins byte bytes ended last
  pub ends : last + far byte bytes last ≡ i + far byte bytes i

pub counting_none : (byte : ℕ) (bytes : List ℕ) → Counting byte bytes 0 0 0
counting_none byte bytes = record { few = omega arith; begun = begins_first byte bytes; ends = refl }

module _ {byte : ℕ} {bytes : List ℕ} {ended last i : ℕ} (so_far : Counting byte bytes ended last i) where
  module _ (inside : i < length bytes) where
    pub counting_hit : get_or bytes i 0 ≡ byte → Counting byte bytes (ended + 1) (i + 1) (i + 1)
    counting_hit e = record {
      few = omega (arith, so_far.few);
      begun = begins_next byte so_far.begun (omega (arith, so_far.ends, far_here byte bytes i inside e)) inside;
      ends = refl;
    }

    pub counting_past : (get_or bytes i 0 ≡ byte → ⊥) → Counting byte bytes ended last (i + 1)
    counting_past d = record {
      few = omega (arith, so_far.few);
      begun = so_far.begun;
      ends = omega (arith, so_far.ends, far_past byte bytes i inside d);
    }

  pub counting_all : i ≡ length bytes → Counted byte bytes (ended + 1) last
  counting_all e = counted_all byte so_far.begun (omega (arith, so_far.ends, far_end byte bytes i (omega arith))) refl

-- ---- a sheet's lines, as they are split off and numbered

front_is : {A : Type 0} (ps : List A) → take (length ps - 1) ps ≡ drop_last ps
front_is [] = refl
front_is (p ∷ []) = refl
front_is (p ∷ q ∷ ps) =
    let one : length (p ∷ q ∷ ps) - 1 ≡ suc (length (q ∷ ps) - 1) = omega arith in
    ap (λ n. take n (p ∷ q ∷ ps)) one ∙ ap (λ l. p ∷ l) (front_is (q ∷ ps))

pub lines_split : (sheet : List ℕ) (n : ℕ) → n ≡ length (lines_of sheet) → take n (slice_split (λ b. eqb b 10) sheet) ≡ lines_of sheet
unfolding lines_of
lines_split sheet n e = rw (split_cut 10 sheet, e, front_length (cut 10 sheet)) (front_is (cut 10 sheet))

pub record LineRead (sheet : List ℕ) (n i : ℕ) (line : List ℕ) : Type 0 where
  pub number : i ≡ n
  pub line_lem : line ≡ get_or (lines_of sheet) n []
  pub within : n < length (lines_of sheet)

pub line_read : (sheet : List ℕ) (lines n i : ℕ) (line : List ℕ) → lines ≡ length (lines_of sheet)
    → (n < length (enumerate_from 0 (take lines (slice_split (λ b. eqb b 10) sheet)))) × ((i, line) ≡ get_or (enumerate_from 0 (take lines (slice_split (λ b. eqb b 10) sheet))) n (i, line))
    → LineRead sheet n i line
line_read sheet lines n i line e turn =
    let ls = lines_of sheet in
    let turned = rw (lines_split sheet lines e) at turn in
    let within : n < length ls = omega (arith, turned.0, length-enumerate_from 0 ls) in
    let at = turned.1 ∙ get_or-enumerate_from 0 ls n (i, line) within in
    record { number = ap (λ p. p.0) at ∙ omega arith; line_lem = ap (λ p. p.1) at ∙ get_or_default ls n line [] within; within = within }

-- the first fault, a turn at a time
module _ (sheet : List ℕ) (k lines n : ℕ) (all : lines ≡ length (lines_of sheet))
    (so_far : fault_from k 0 (lines_of sheet) ≡ fault_from k n (drop n (lines_of sheet))) where
  module _ (i : ℕ) (line : List ℕ) (read : LineRead sheet n i line) where
    pub faulty : line_fits k i line ≡ false → fault_from k 0 (lines_of sheet) ≡ some i
    faulty e =
        let here : line_fits k n (get_or (lines_of sheet) n []) ≡ false = ap (line_fits k n) (sym read.line_lem) ∙ ap (λ m. line_fits k m line) (sym read.number) ∙ e in
        so_far ∙ fault_here k (lines_of sheet) n read.within here ∙ ap some (sym read.number)

    pub fault_within : i < lines
    fault_within = omega (arith, read.within, read.number, all)

    pub faultless : line_fits k i line ≡ true → fault_from k 0 (lines_of sheet) ≡ fault_from k (n + 1) (drop (n + 1) (lines_of sheet))
    faultless e =
        let here : line_fits k n (get_or (lines_of sheet) n []) ≡ true = ap (line_fits k n) (sym read.line_lem) ∙ ap (λ m. line_fits k m line) (sym read.number) ∙ e in
        so_far ∙ fault_later k (lines_of sheet) n read.within here

  pub no_fault : length (lines_of sheet) ≤ n → fault_from k 0 (lines_of sheet) ≡ none
  no_fault h = so_far ∙ fault_none k (lines_of sheet) n h
