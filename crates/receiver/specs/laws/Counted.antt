-- What reading promises of its count: it lies within the room, and does not fall.
-- Assumes nothing.
use Rattle.std.specs.Prelude.{ℕ, ◌≤◌, Result, Ok, Err}

abbrev pub Counted : {E : Type 0} → ℕ → ℕ → Result ℕ E → Type 0
Counted from room (Ok n) = (from ≤ n) × (n ≤ room)
Counted from room (Err _) = Unit {0}
