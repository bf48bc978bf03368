-- The text's faults: the reply by its tests one after the other, the first fault line by line, and what a sheet whose text fits is.
-- Assumes nothing.
use Rattle.std.specs.Prelude.{◌≡◌, Bool, cond, not, ◌&&◌, ℕ, suc, ◌+◌, ◌-◌, ◌≤◌, ◌<◌, length, get_or, take, drop, Ok, Err}
use Rattle.std.proofs.Math.Path.{refl, ap}
use Rattle.std.proofs.Common.{sym, ◌∙◌, arith, drop_of_length-le, drop-cons}
use Rattle.std.proofs.Math.Bool.{true, false}
use Rattle.std.proofs.lemmas.Bool.{false≢true}
use mathlib.Core.List.{List, []}
use Rattle.std.proofs.Math.Option.{Option, none, some, Option-elim, or_else}
use Rattle.std.proofs.Math.Decide.{dec_lt}
use Rattle.std.proofs.Math.Numerals.{add-one}
use Rattle.std.proofs.Math.Dec.{leb}
use borrow.Author.Tests.{le-leb, lt-leb, leb-true}
use Rattle.lists.specs.Lists.{is_empty, found}
use Rattle.lists.specs.laws.Tests.{and_both}
use Rattle.text.specs.Text.{cut}
use Rattle.refusal.specs.declared.Refusal.TheVariants.{Text}
use Rattle.refusal.specs.Refusals.{Reply, check, ◌then◌, first_of}
use Rattle.refusal.specs.laws.Checks.{fails_first, passes_first}
use Rattle.refusal.specs.laws.InTurn.{Each, each_holds}
use Rattle.rows.specs.Lines.{lines_of, last_piece, row_count, message_bits, line_fits, fault_from, first_fault, fault_line, size_fits, text_checks}
use Rattle.rows.specs.laws.Pieces.{Counted, Begins, ends_before, piece_is, front_length, front_at}

-- ---- the sheet by its pieces

nothing_left : (n : ℕ) (xs : List ℕ) → is_empty (drop n xs) ≡ leb (length xs) n
unfolding is_empty
nothing_left n xs = elim (dec_lt n (length xs)) [
  | yes l ↦ rw (drop-cons xs n 0 l) (sym (lt-leb (length xs) n l))
  | no l ↦ rw (drop_of_length-le xs {i = n} (omega arith)) (sym (le-leb (length xs) n (omega arith)))
]

pub lines_count : (sheet : List ℕ) → length (lines_of sheet) ≡ length (cut 10 sheet) - 1
unfolding lines_of
lines_count sheet = front_length (cut 10 sheet)

module _ {sheet : List ℕ} {count last : ℕ} (counted : Counted 10 sheet count last) where
  pub lines_are : length (lines_of sheet) ≡ count - 1
  lines_are = omega (arith, lines_count sheet, counted.counted)

  pub last_empty : is_empty (last_piece sheet) ≡ leb (length sheet) last
  unfolding last_piece
  last_empty = ap is_empty counted.last_piece_lem ∙ nothing_left last sheet

  pub rows_are : row_count sheet ≡ count - 1 + cond (leb (length sheet) last) 0 1 - 1
  unfolding row_count
  rows_are = rw (lines_are, last_empty) refl

-- ---- the first fault, line by line

module _ (k : ℕ) (lines : List (List ℕ)) (i : ℕ) where
  pub fault_later : i < length lines → line_fits k i (get_or lines i []) ≡ true → fault_from k i (drop i lines) ≡ fault_from k (i + 1) (drop (i + 1) lines)
  unfolding fault_from
  fault_later l e = rw (drop-cons lines i [] l, e, add-one i) refl

  pub fault_here : i < length lines → line_fits k i (get_or lines i []) ≡ false → fault_from k i (drop i lines) ≡ some i
  unfolding fault_from
  fault_here l e = rw (drop-cons lines i [] l, e) refl

  pub fault_none : length lines ≤ i → fault_from k i (drop i lines) ≡ none
  unfolding fault_from
  fault_none l = rw (drop_of_length-le lines {i = i} l) refl

-- line i, as it is cut out of the sheet
pub line_is : {sheet : List ℕ} {i from e : ℕ} → Begins 10 sheet i from → e ≡ from + length (get_or (cut 10 (drop from sheet)) 0 []) →
    i < length (lines_of sheet) → (e < length sheet) × (take (e - from) (drop from sheet) ≡ get_or (lines_of sheet) i [])
unfolding lines_of
line_is {sheet} {i} b ends h =
    let more : i + 1 < length (cut 10 sheet) = omega (arith, front_length (cut 10 sheet)) in
    (ends_before 10 b ends more, piece_is 10 b ends ∙ sym (front_at (cut 10 sheet) i [] more))

-- ---- the reply, test by test

-- the first fault, told
fault_told : (f : Option ℕ) → Option-elim f (Ok tt) (λ i. Err (Text (suc i))) ≡ (check (not (found f)) (Text (Option-elim f 0 suc)) then Ok tt)
unfolding Option-elim found check ◌then◌
fault_told none = refl
fault_told (some i) = refl

small : (a b c : Bool) → a ≡ true → b ≡ true → c ≡ true → (a && b && c) ≡ true
small a b c e f g = rw (e, f, g) refl

module _ (sheet : List ℕ) where
  abbrev rows : ℕ
  rows = row_count sheet

  pub too_long : 16384 < length sheet → Err (Text 0) ≡ first_of (text_checks sheet)
  unfolding text_checks first_of size_fits
  too_long h = fails_first _ (go (leb 3 rows) (leb rows 514))
    where
      go : (b c : Bool) → (leb (length sheet) 16384 && b && c) ≡ false
      go b c = rw (lt-leb (length sheet) 16384 h) refl

  pub too_few : rows < 3 → Err (Text 0) ≡ first_of (text_checks sheet)
  unfolding text_checks first_of size_fits
  too_few h = fails_first _ (go (leb (length sheet) 16384) (leb rows 514))
    where
      go : (a c : Bool) → (a && leb 3 rows && c) ≡ false
      go true c = rw (lt-leb 3 rows h) refl
      go false c = refl

  pub too_many : 514 < rows → Err (Text 0) ≡ first_of (text_checks sheet)
  unfolding text_checks first_of size_fits
  too_many h = fails_first _ (go (leb (length sheet) 16384) (leb 3 rows))
    where
      go : (a b : Bool) → (a && b && leb rows 514) ≡ false
      go true true = lt-leb rows 514 h
      go true false = refl
      go false b = refl

  module _ (short : length sheet ≤ 16384) (least : 3 ≤ rows) (most : rows ≤ 514) where
    sized : (leb (length sheet) 16384 && leb 3 rows && leb rows 514) ≡ true
    sized = small _ _ _ (le-leb (length sheet) 16384 short) (le-leb 3 rows least) (le-leb rows 514 most)

    pub text_by : {x : Reply} → x ≡ Option-elim (first_fault sheet) (Ok tt) (λ i. Err (Text (suc i))) → x ≡ first_of (text_checks sheet)
    unfolding text_checks first_of size_fits fault_line
    text_by e = passes_first (Text 0) sized (e ∙ fault_told (first_fault sheet))

    pub text_fault : {i : ℕ} → fault_from (message_bits sheet) 0 (lines_of sheet) ≡ some i → Err (Text (i + 1)) ≡ first_of (text_checks sheet)
    unfolding first_fault or_else Option-elim
    text_fault {i} e = text_by (rw (e, add-one i) refl)

    pub text_open : fault_from (message_bits sheet) 0 (lines_of sheet) ≡ none → is_empty (last_piece sheet) ≡ false →
        Err (Text (length (lines_of sheet) + 1)) ≡ first_of (text_checks sheet)
    unfolding first_fault or_else Option-elim
    text_open e f = text_by (rw (e, f, add-one (length (lines_of sheet))) refl)

    pub text_done : fault_from (message_bits sheet) 0 (lines_of sheet) ≡ none → is_empty (last_piece sheet) ≡ true → Ok tt ≡ first_of (text_checks sheet)
    unfolding first_fault or_else Option-elim
    text_done e f = text_by (rw (e, f) refl)

-- ---- a sheet whose text fits: a header, K rows and two more, each with its line feed

pub record Fitting (sheet : List ℕ) : Type 0 where
  pub some_bits : 1 ≤ message_bits sheet
  pub few_bits : message_bits sheet ≤ 512
  pub lines_long : length (lines_of sheet) ≡ message_bits sheet + 3
  pub cut_long : length (cut 10 sheet) ≡ message_bits sheet + 4

no_fault : (f : Option ℕ) (e : Bool) (n : ℕ) → not (found (or_else f (cond e none (some n)))) ≡ true → e ≡ true
unfolding found or_else
no_fault none true n h = refl
no_fault none false n h = absurd (false≢true h)
no_fault (some i) e n h = absurd (false≢true h)

pub fitting : (sheet : List ℕ) → first_of (text_checks sheet) ≡ Ok tt → Fitting sheet
unfolding text_checks Each size_fits first_fault row_count message_bits
fitting sheet e =
    let (sizes, (faultless, end)) = each_holds (text_checks sheet) e in
    let whole = no_fault (fault_from (message_bits sheet) 0 (lines_of sheet)) (is_empty (last_piece sheet)) _ faultless in
    let (lower, most) = and_both (leb (length sheet) 16384 && leb 3 (row_count sheet)) (leb (row_count sheet) 514) sizes in
    let (short, least) = and_both (leb (length sheet) 16384) (leb 3 (row_count sheet)) lower in
    let rows : row_count sheet ≡ length (lines_of sheet) + 0 - 1 = rw whole refl in
    let many = leb-true 3 (row_count sheet) least in
    let few = leb-true (row_count sheet) 514 most in
    record {
      some_bits = omega arith;
      few_bits = omega arith;
      lines_long = omega arith;
      cut_long = omega (arith, lines_count sheet);
    }
