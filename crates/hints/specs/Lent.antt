-- What `find` hands back, as the definitions' value: a kind by its number, and 0 in line 0 where nothing is seen.
-- Assumes nothing.
use Rattle.std.specs.Prelude.{Option, Some, None, ℕ}
use Rattle.hints.specs.declared.Hint as lent
use Rattle.hints.specs.declared.Kind.{Kind}
use Rattle.hints.specs.declared.Kind.TheVariants.{Empty, Utf16, ByteOrderMark, CarriageReturn, Tab, LastSpace, EmptyLine, NoLineFeed, TooLong}
use Rattle.hints.specs.Hints.{Hint, hint}

abbrev pub kind_number : Kind → ℕ
kind_number Empty = 1
kind_number Utf16 = 2
kind_number ByteOrderMark = 3
kind_number CarriageReturn = 4
kind_number Tab = 5
kind_number LastSpace = 6
kind_number EmptyLine = 7
kind_number NoLineFeed = 8
kind_number TooLong = 9

abbrev pub hint_told : Option lent.Hint → Hint
hint_told None = hint 0 0
hint_told (Some seen) = hint (kind_number seen.kind) seen.line
