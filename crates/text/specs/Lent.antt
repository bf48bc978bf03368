-- What the functions hand back, as the definitions' values.
-- Assumes nothing.
use Rattle.std.specs.Prelude as std
use Rattle.std.specs.Prelude.{List, ℕ, ℤ, take, Some, None}
use Rattle.std.proofs.Math.Option.{Option, none, some}
use Rattle.text.specs.declared.Digits.{Digits}

abbrev pub natural_of : std.Option ℕ → Option ℕ
natural_of None = none
natural_of (Some n) = some n

abbrev pub integer_of : std.Option ℤ → Option ℤ
integer_of None = none
integer_of (Some z) = some z

-- the bytes that are printed
abbrev pub digits_of : Digits → List ℕ
digits_of d = take d.len d.bytes
