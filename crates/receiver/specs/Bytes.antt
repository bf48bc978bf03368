-- What the program does to its input and its output, where the bytes of both are known.
-- Assumes nothing.
use Rattle.std.specs.Prelude.{◌≡◌, Bool, true, false, ℕ, ◌<◌, List, Option, Result, Ok, Err, take, length}
use Rattle.std.specs.List.{between}
use Rattle.std.specs.Io.KnownBytes.{Consumes, IsAtEnd}
use Rattle.refusal.specs.Refusals.{Reply, first_of}
use Rattle.sheet.specs.Sheet.{sheet_checks}

-- one read more: what it has taken from the input stands in the room from `from` on, and where that is nothing the input is at its end
abbrev pub IsReadOn : {E : Type 0} → Option (List ℕ) → Option (List ℕ) → ℕ → List ℕ → Result ℕ E → Type 0
IsReadOn old new from room (Ok n) = Consumes old new (between from n room) × (n ≡ from → from < length room → IsAtEnd new)
IsReadOn old new from room (Err _) = Unit {0}

-- all that there is of the input stands at the front of the room, or as much of it as the room holds
abbrev pub IsRead : {E : Type 0} → List ℕ → List ℕ → Result ℕ E → Type 0
IsRead input room (Ok n) = take n room ≡ take (length room) input
IsRead input room (Err _) = Unit {0}

-- the reply to a sheet is a refusal
unfoldable pub is_refusal : Reply → Bool
is_refusal (Ok tt) = false
is_refusal (Err r) = true

abbrev pub refuses : List ℕ → Bool
refuses sheet = is_refusal (first_of (sheet_checks sheet))
