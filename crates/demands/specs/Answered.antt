-- What a sheet is answered with (document 01, "Sheet"; document 02, request 2), the statement: what is printed for it, byte by byte. It is refused by the
-- first of its rules that is broken, with its line; otherwise what is printed, line by line, are the bit, margin and extrinsic of a decoding of its frame.
-- Assumes nothing.
use Rattle.std.specs.Prelude.{◌≡◌, true, false, not, ◌⊎◌, ◌≢◌, List, [], ◌∷◌, ◌++◌, ℕ, suc, ◌+◌, ◌<◌, eqb, length, get_or, Ok}
use Rattle.lists.specs.Lists.{joined, count, is_empty, found}
use Rattle.text.specs.Text.{bytes, line_feed}
use Rattle.text.specs.Decimal.{digits}
use Rattle.refusal.specs.declared.Refusal.{Refusal}
use Rattle.refusal.specs.declared.Refusal.TheVariants.{Text, ValueInLine, Pattern}
use Rattle.refusal.specs.Refusals.{told, Check, ◌unless◌}
use Rattle.refusal.specs.Replied.{all_hold, IsFirstToFail}
use Rattle.trellis.specs.Limits.{channel_fits}
use Rattle.frame.specs.Interleaver.{permutes}
use Rattle.decoder.specs.Decoder.{DecodeResult}
use Rattle.rows.specs.Lines.{lines_of, last_piece, message_bits, line_fits, first_fault, fault_line, size_fits}
use Rattle.sheet.specs.Sheet.{values_of, sheet_call_of, lent_for, row_values, value_line, result_line}
use Rattle.demands.specs.Decoding.{IsDecoding}

-- ---- refused

-- the rules of a sheet, in their order: its size, its lines, its values, its pattern
unfoldable pub sheet_rules : List ℕ → List Check
sheet_rules sheet =
    Text 0 unless size_fits sheet
    ∷ Text (fault_line sheet) unless not (found (first_fault sheet))
    ∷ ValueInLine (value_line sheet) unless channel_fits (values_of sheet)
    ∷ Pattern unless permutes (message_bits sheet) (sheet_call_of sheet).frame.pattern
    ∷ []

-- the first faulty line, the header being 1: that line breaks the rules, or it is a last piece without its line feed, and no line before it does
pub record IsFaultyLine (sheet : List ℕ) (line : ℕ) : Type 0 where
  pub index : ℕ
  pub from_one : line ≡ suc index
  pub faulty :
      ((index < length (lines_of sheet)) × (line_fits (message_bits sheet) index (get_or (lines_of sheet) index []) ≡ false))
      ⊎ ((index ≡ length (lines_of sheet)) × (is_empty (last_piece sheet) ≡ false))
  pub fit_before : (i : ℕ) → i < index → line_fits (message_bits sheet) i (get_or (lines_of sheet) i []) ≡ true

-- and there is none: every line keeps the rules, and each is ended by its line feed
pub record IsFaultless (sheet : List ℕ) : Type 0 where
  pub fit : (i : ℕ) → i < length (lines_of sheet) → line_fits (message_bits sheet) i (get_or (lines_of sheet) i []) ≡ true
  pub ended : is_empty (last_piece sheet) ≡ true

-- the line of the first value outside its limits, row by row: the row there has one, and no row before it has. The header is line 1
pub record IsValueLine (sheet : List ℕ) (line : ℕ) : Type 0 where
  pub row : ℕ
  pub in_sheet : row < message_bits sheet + 2
  pub below_header : line ≡ row + 2
  pub outside : channel_fits (get_or (row_values sheet) row []) ≡ false
  pub inside_before : (i : ℕ) → i < row → channel_fits (get_or (row_values sheet) i []) ≡ true

-- a refusal: that of the first rule that is broken, and what is printed are its number and its line
pub record IsRefusal (sheet text : List ℕ) : Type 0 where
  pub refusal : Refusal
  pub first : IsFirstToFail (sheet_rules sheet) refusal
  pub faulty : (line : ℕ) → refusal ≡ Text line → line ≢ 0 → IsFaultyLine sheet line
  pub value : (line : ℕ) → refusal ≡ ValueInLine line → IsValueLine sheet line
  pub whole : text ≡ bytes "refused line\n" ++ digits (told refusal).number ++ bytes " " ++ digits (told refusal).place ++ bytes "\n"

-- ---- decoded

-- a result: no rule is broken, and what is printed are a header and a line for each message position, its bit, margin and extrinsic those of a decoding of
-- the sheet's frame. No other line feed is in it
pub record IsResult (sheet text : List ℕ) : Type 0 where
  pub unbroken : all_hold (sheet_rules sheet) ≡ true
  pub faultless : IsFaultless sheet
  pub result : DecodeResult
  pub decoding : IsDecoding (sheet_call_of sheet) (lent_for sheet) result
  pub done : result.reply ≡ Ok tt
  pub whole : text ≡ bytes "at bit margin extrinsic\n" ++ joined (result_line result.lists) (message_bits sheet)
  pub line_feeds : count (λ b. eqb b line_feed) text ≡ message_bits sheet + 1

-- an answer to a sheet: the one or the other
unfoldable pub IsAnswer : List ℕ → List ℕ → Type 0
IsAnswer sheet text = IsRefusal sheet text ⊎ IsResult sheet text
