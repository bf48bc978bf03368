-- A sheet (document 01, "Sheet"): from its rows to a frame, or to a refusal with its line; from the result to the bytes printed.
-- Assumes nothing.
use Rattle.std.specs.Prelude.{List, [], ◌∷◌, ◌++◌, ℕ, suc, ◌+◌, ◌*◌, ◌≤◌, ℤ, pos, length, get_or, replicate, Ok, Err}
use Rattle.std.proofs.Math.Option
use Rattle.std.proofs.Math.Option.{none}
use Rattle.lists.specs.Lists.{listed, joined, first_failing}
use Rattle.text.specs.Text.{bytes}
use Rattle.text.specs.Decimal.{digits, decimal}
use Rattle.refusal.specs.declared.Refusal.{Refusal}
use Rattle.refusal.specs.declared.Refusal.TheVariants.{ValueInLine}
use Rattle.refusal.specs.Refusals.{Reply, told, Check, ◌unless◌, first_of}
use Rattle.rows.specs.Rows.{MessageRow, TailRow, message_row, tail_row}
use Rattle.rows.specs.Lines.{lines_of, message_bits, text_checks}
use Rattle.rows.specs.Lent.{received_value}
use Rattle.trellis.specs.declared.End.TheVariants.{Zero}
use Rattle.trellis.specs.Limits.{channel_fits}
use Rattle.house.specs.House.{house}
use Rattle.decoder.specs.Decoder.{DecodeCall, DecodeLent, decode_checks, decode}

-- ---- the frame. (The zeros that stand for a row which is none are met only where the text is refused.)

unfoldable pub message_at : List ℕ → ℕ → MessageRow
message_at sheet k =
    Option.get_or (message_row k (get_or (lines_of sheet) (suc k) [])) (record { to = 0; sys = none; par = none; par2 = none })

-- the tail rows, counted from 0
unfoldable pub tail_at : List ℕ → ℕ → TailRow
tail_at sheet j =
    let k = message_bits sheet + j in
    Option.get_or (tail_row k (get_or (lines_of sheet) (suc k) [])) (record { sys = pos 0; par = pos 0; par2 = pos 0; sys2 = pos 0 })

-- the values of message row k and of tail row j, from left to right
abbrev pub message_values : List ℕ → ℕ → List ℤ
message_values sheet k = received_value (message_at sheet k).sys ∷ received_value (message_at sheet k).par ∷ received_value (message_at sheet k).par2 ∷ []

abbrev pub tail_values : List ℕ → ℕ → List ℤ
tail_values sheet j = (tail_at sheet j).sys ∷ (tail_at sheet j).par ∷ (tail_at sheet j).par2 ∷ (tail_at sheet j).sys2 ∷ []

-- the values of every place: the message rows, then tail 1, then tail 2
unfoldable pub values_of : List ℕ → List ℤ
values_of sheet =
    joined (message_values sheet) (message_bits sheet)
    ++ joined (λ j. (tail_at sheet j).sys ∷ (tail_at sheet j).par ∷ []) 2
    ++ joined (λ j. (tail_at sheet j).sys2 ∷ (tail_at sheet j).par2 ∷ []) 2

-- the house code, two zero ends, T = 2, eight iterations; every place has its value, as under mask 7
unfoldable pub sheet_call_of : List ℕ → DecodeCall
sheet_call_of sheet = record {
  frame = record {
    table = house;
    first = Zero;
    second = Zero;
    bits = message_bits sheet;
    tail = 2;
    pattern = listed (λ k. (message_at sheet k).to) (message_bits sheet);
    masks = 7 ∷ [];
  };
  received = values_of sheet;
  iterations = 8;
}

-- lists of the lengths that the frame decoder asks for
unfoldable pub lent_for : List ℕ → DecodeLent
lent_for sheet =
    let k = message_bits sheet in
    record { bits = replicate k 0; margins = replicate k (pos 0); extrinsics = replicate k (pos 0); work = replicate ((k + 3) * 4) (pos 0) }

-- ---- a value outside its limits (6)

-- the values in reading order: row by row, each from left to right. The tails stand side by side there, and one after the other in the frame
unfoldable pub row_values : List ℕ → List (List ℤ)
row_values sheet = listed (message_values sheet) (message_bits sheet) ++ listed (tail_values sheet) 2

-- the line of the first value outside its limits in that order, the header being 1
unfoldable pub value_line : List ℕ → ℕ
value_line sheet = first_failing channel_fits (row_values sheet) + 2

-- 6 with that line
abbrev pub line_check : List ℕ → Check
line_check sheet = ValueInLine (value_line sheet) unless channel_fits (values_of sheet)

-- ---- the answer

-- the number, one space and the line
unfoldable pub refusal_text : Refusal → List ℕ
refusal_text r = bytes "refused line\n" ++ digits (told r).number ++ bytes " " ++ digits (told r).place ++ bytes "\n"

-- a line for each message position
unfoldable pub result_line : DecodeLent → ℕ → List ℕ
result_line l k =
    digits k ++ bytes " " ++ digits (get_or l.bits k 0) ++ bytes " " ++ decimal (get_or l.margins k (pos 0)) ++ bytes " "
    ++ decimal (get_or l.extrinsics k (pos 0)) ++ bytes "\n"

unfoldable pub result_text : DecodeLent → List ℕ
result_text l = bytes "at bit margin extrinsic\n" ++ joined (result_line l) (length l.bits)

unfoldable pub printed : Reply → DecodeLent → List ℕ
printed (Ok tt) l = result_text l
printed (Err r) l = refusal_text r

-- all checks of a sheet: 1, then 6 with its line, stand before every other number that the frame decoder gives
unfoldable pub sheet_checks : List ℕ → List Check
sheet_checks sheet = text_checks sheet ++ (line_check sheet ∷ decode_checks (sheet_call_of sheet) (lent_for sheet))

-- what the program prints for a sheet
unfoldable pub answer : List ℕ → List ℕ
answer sheet = printed (first_of (sheet_checks sheet)) (decode (sheet_call_of sheet) (lent_for sheet)).lists

-- a text that is not empty and fits on a page, as every answer does
pub record FitsPage (text : List ℕ) : Type 0 where
  pub some : 1 ≤ length text
  pub few : length text ≤ 24600
