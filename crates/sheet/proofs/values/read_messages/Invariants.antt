-- The pattern and the values of the rows so far.
use Rattle.std.proofs.Common.{◌≡◌, ◌*◌, length, take}
use Rattle.lists.specs.Lists.{joined}
use Rattle.lists.specs.laws.Stores.{Filled}
use Rattle.sheet.specs.Sheet.{message_at, message_values}
use Rattle.sheet.proofs.values.read_messages.Given as goal

abbrev pub invariant-loop-k : goal.invariant-loop-k
invariant-loop-k l = record {
  pattern_len : length l.pattern ≡ length l.initial.pattern;
  values_len : length l.values ≡ length l.initial.values;
  named : Filled 0 (λ j. (message_at l.sheet j).to) l.pattern (length l.yielded);
  valued : take (3 * length l.yielded) l.values ≡ joined (message_values l.sheet) (length l.yielded);
}
