-- The text of a sheet (document 01, "Sheet"): its lines, how many rows it has, and the checks of the text, which give a refusal with its line.
-- Assumes nothing.
use Rattle.std.specs.Prelude.{Bool, cond, not, ◌&&◌, ℕ, zero, suc, ◌+◌, ◌-◌, leb, ltb, length}
use mathlib.Core.List.{List, [], ◌∷◌, drop_last, get_last_d}
use Rattle.std.proofs.Math.Option.{Option, none, some, Option-elim, or_else}
use Rattle.lists.specs.Lists.{is_empty, found}
use Rattle.text.specs.Text.{bytes, line_feed, cut, same}
use Rattle.refusal.specs.declared.Refusal.TheVariants.{Text}
use Rattle.refusal.specs.Refusals.{Check, ◌unless◌}
use Rattle.rows.specs.Rows.{message_row, tail_row}

-- ---- lines and rows

-- the lines, each ended by a line feed, and the last piece, which has none
unfoldable pub lines_of : List ℕ → List (List ℕ)
lines_of sheet = drop_last (cut line_feed sheet)

unfoldable pub last_piece : List ℕ → List ℕ
last_piece sheet = get_last_d (cut line_feed sheet) []

-- the rows are the pieces after the first line; a last piece counts as one, and nothing after the last line feed is no piece
unfoldable pub row_count : List ℕ → ℕ
row_count sheet = length (lines_of sheet) + cond (is_empty (last_piece sheet)) 0 1 - 1

-- K: all rows but the last two
unfoldable pub message_bits : List ℕ → ℕ
message_bits sheet = row_count sheet - 2

-- ---- the text's faults (1)

-- line i, counted from 0, keeps the rules: the header, then K message rows, then the tail rows
unfoldable pub line_fits : ℕ → ℕ → List ℕ → Bool
line_fits k zero line = same line (bytes "at to sys par par2 sys2")
line_fits k (suc i) line = cond (ltb i k) (found (message_row i line)) (found (tail_row i line))

-- the first of the lines, counted from i, that does not
unfoldable pub fault_from : ℕ → ℕ → List (List ℕ) → Option ℕ
fault_from k i [] = none
fault_from k i (line ∷ lines) = cond (line_fits k i line) (fault_from k (suc i) lines) (some i)

-- the first faulty line, counted from 0; a last piece without its line feed is faulty
unfoldable pub first_fault : List ℕ → Option ℕ
first_fault sheet =
    or_else (fault_from (message_bits sheet) 0 (lines_of sheet)) (cond (is_empty (last_piece sheet)) none (some (length (lines_of sheet))))

-- the same, the header being 1; 0 where there is none
unfoldable pub fault_line : List ℕ → ℕ
fault_line sheet = Option-elim (first_fault sheet) 0 suc

-- a sheet has at most 16,384 bytes and 3..514 rows
unfoldable pub size_fits : List ℕ → Bool
size_fits sheet = leb (length sheet) 16384 && leb 3 (row_count sheet) && leb (row_count sheet) 514

-- the checks of the text: its size comes first, with line 0, then the first faulty line
unfoldable pub text_checks : List ℕ → List Check
text_checks sheet = Text 0 unless size_fits sheet ∷ Text (fault_line sheet) unless not (found (first_fault sheet)) ∷ []
