-- A row as the functions that read it hand it over: what it holds, where the text is one.
-- Assumes nothing.
use Rattle.std.specs.Prelude as std
use Rattle.std.specs.Prelude.{Some, None, List, [], ℕ, ◌+◌, ℤ, pos, get_or}
use Rattle.std.proofs.Math.Option
use Rattle.std.proofs.Math.Option.{Option, none, some}
use Rattle.text.specs.Text.{line_feed, cut}
use Rattle.rows.specs.declared.Message.{Message}
use Rattle.rows.specs.declared.Tail.{Tail}
use Rattle.rows.specs.Rows.{MessageRow, TailRow, tail_row}

-- an unsent value is received as 0
abbrev pub received_value : Option ℤ → ℤ
received_value x = Option.get_or x (pos 0)

abbrev pub no_message : std.Option Message
no_message = None

abbrev pub a_message : ℕ → ℤ → ℤ → ℤ → std.Option Message
a_message to sys par par2 = Some (record { to = to; sys = sys; par = par; par2 = par2 })

unfoldable pub message_shown : Option MessageRow → std.Option Message
message_shown none = no_message
message_shown (some m) = a_message m.to (received_value m.sys) (received_value m.par) (received_value m.par2)

abbrev pub no_tail : std.Option Tail
no_tail = None

abbrev pub a_tail : ℤ → ℤ → ℤ → ℤ → std.Option Tail
a_tail sys par par2 sys2 = Some (record { sys = sys; par = par; par2 = par2; sys2 = sys2 })

unfoldable pub tail_shown : Option TailRow → std.Option Tail
tail_shown none = no_tail
tail_shown (some t) = a_tail t.sys t.par t.par2 t.sys2

-- row k of a sheet, which is piece k + 1 of its text, as a tail row
unfoldable pub tail_in : List ℕ → ℕ → std.Option Tail
tail_in sheet k = tail_shown (tail_row k (get_or (cut line_feed sheet) (k + 1) []))

-- what is taken for a row where the text is none: zeros
abbrev pub message_or_zeros : std.Option Message → Message
message_or_zeros None = record { to = 0; sys = pos 0; par = pos 0; par2 = pos 0 }
message_or_zeros (Some m) = m

abbrev pub tail_or_zeros : std.Option Tail → Tail
tail_or_zeros None = record { sys = pos 0; par = pos 0; par2 = pos 0; sys2 = pos 0 }
tail_or_zeros (Some t) = t
