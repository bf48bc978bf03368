-- What a number's digits are appended by, as a set of laws.
-- Assumes nothing.
use Rattle.std.proofs.Common.{append_assoc}
use Rattle.text.specs.laws.Printing.{digits_few, digits_more, one_digit, one_more}

pub ruleset printing = (digits_few, digits_more, one_digit, one_more, append_assoc)
