-- Codes named by their taps (document 02, request 1): the table of a recursive systematic coder of memory m, from its feedback and parity numbers.
-- The register is a number: bit 0 is the new bit, and bit i + 1 is state bit i, the register bit i + 1 steps old. Bit i of a tap number is the
-- coefficient of D^i, so it stands over bit i of the register.
-- Assumes nothing.
use Rattle.std.specs.Prelude.{ℕ, ◌+◌, ◌*◌, ◌/◌, ◌%◌, ◌^◌}
use Rattle.std.specs.Int.Bits.{bit_and}
use Rattle.std.specs.Int.Count.{ones}
use Rattle.lists.specs.Lists.{listed}
use Rattle.trellis.specs.Table.{Table}

-- 1 where the ones of a register under the taps are odd in number, else 0
unfoldable pub odd_under : ℕ → ℕ → ℕ
odd_under taps register = ones (bit_and taps register) % 2

-- the new register bit, for input x in state s: the feedback sum of the input and the register, which has no new bit yet
unfoldable pub new_bit : ℕ → ℕ → ℕ → ℕ
new_bit feedback s x = (x + odd_under feedback (2 * s)) % 2

-- the register with its new bit
unfoldable pub register_of : ℕ → ℕ → ℕ → ℕ
register_of feedback s x = new_bit feedback s x + 2 * s

-- the next of so many states: the register without its oldest bit
unfoldable pub taps_next : ℕ → ℕ → ℕ → ℕ → ℕ
taps_next states feedback s x = register_of feedback s x % states

-- the parity: the ones under the parity taps, the new bit's among them
unfoldable pub taps_parity : ℕ → ℕ → ℕ → ℕ → ℕ
taps_parity feedback parity s x = odd_under parity (register_of feedback s x)

-- entry i of the table's two lists, that of state i / 2 and bit i % 2. Outputs are the input, then the parity
abbrev pub next_entry : ℕ → ℕ → ℕ → ℕ
next_entry states feedback i = taps_next states feedback (i / 2) (i % 2)

abbrev pub word_entry : ℕ → ℕ → ℕ → ℕ
word_entry feedback parity i = i % 2 + 2 * taps_parity feedback parity (i / 2) (i % 2)

-- the table of memory m: 2^m states, two outputs
unfoldable pub taps_table : ℕ → ℕ → ℕ → Table
taps_table m feedback parity = record {
  states = 2 ^ m;
  outputs = 2;
  next = listed (next_entry (2 ^ m) feedback) (2 * 2 ^ m);
  words = listed (word_entry feedback parity) (2 * 2 ^ m);
}
