-- What the tests of a sheet's text tell, in the numbers that the code has: its pieces counted, and the first line that does not keep the rules, if
-- there is one.
-- Assumes nothing.
use Rattle.std.specs.Prelude as std
use Rattle.std.specs.Prelude.{◌≡◌, true, false, cond, ℕ, ◌+◌, ◌-◌, ◌≤◌, ◌<◌, leb, List, length, Err, Some, None}
use Rattle.std.proofs.Common.{ap, ◌∙◌}
use Rattle.std.proofs.Math.Option.{Option, none, some}
use borrow.Author.Tests.{lt-leb, le-leb}
use Rattle.lists.specs.Lists.{is_empty}
use Rattle.text.specs.Lent.{natural_of}
use Rattle.refusal.specs.declared.Refusal.TheVariants.{Text}
use Rattle.refusal.specs.Refusals.{first_of}
use Rattle.rows.specs.Lines.{lines_of, last_piece, row_count, message_bits, fault_from, text_checks}
use Rattle.rows.specs.laws.Pieces.{Counted, cut_some}
use Rattle.rows.specs.laws.Fitting.{lines_are, last_empty, rows_are, too_long, too_few, too_many, text_fault, text_open, text_done}

module _ {sheet : List ℕ} {count last : ℕ} (counted : Counted 10 sheet count last) where
  pub bits_are : message_bits sheet ≡ count - 1 + cond (leb (length sheet) last) 0 1 - 1 - 2
  unfolding message_bits
  bits_are = ap (λ (n : ℕ). n - 2) (rows_are counted)

  pub open_end : last < length sheet → is_empty (last_piece sheet) ≡ false
  open_end h = last_empty counted ∙ lt-leb _ _ h

  pub closed_end : length sheet ≤ last → is_empty (last_piece sheet) ≡ true
  closed_end h = last_empty counted ∙ le-leb _ _ h

-- what is found, or none
pub fault_seen : {f : Option ℕ} (r : std.Option ℕ) (i : ℕ) → f ≡ natural_of r → r ≡ Some i → f ≡ some i
fault_seen r i e h = e ∙ ap natural_of h

pub none_seen : {f : Option ℕ} (r : std.Option ℕ) → f ≡ natural_of r → r ≡ None → f ≡ none
none_seen r e h = e ∙ ap natural_of h

-- a piece after the last line is told by its line's number
pub text_after : (sheet : List ℕ) (n : ℕ) → length sheet ≤ 16384 → 3 ≤ row_count sheet → row_count sheet ≤ 514 →
    fault_from (message_bits sheet) 0 (lines_of sheet) ≡ none → is_empty (last_piece sheet) ≡ false → n ≡ length (lines_of sheet) →
    Err (Text (n + 1)) ≡ first_of (text_checks sheet)
text_after sheet n short least most faultless unended same = rw same (text_open sheet short least most faultless unended)

-- what a reply goes by, in the order of the tests
pub ruleset replying = (
  lines_are,
  rows_are,
  bits_are,
  open_end,
  closed_end,
  fault_seen,
  none_seen,
  too_long,
  too_few,
  too_many,
  text_fault,
  text_after,
  text_done,
  cut_some,
)
