-- The house code by its state equations (document 01, "House code"), and its table.
-- Assumes nothing.
use Rattle.std.specs.Prelude.{ℕ, ◌+◌, ◌*◌, ◌/◌, ◌%◌}
use Rattle.std.specs.Int.Bits.{bit_xor}
use Rattle.lists.specs.Lists.{listed}
use Rattle.trellis.specs.Table.{Table}

-- state s is s0 + 2·s1
abbrev s0 : ℕ → ℕ
s0 s = s % 2

abbrev s1 : ℕ → ℕ
s1 s = s / 2

-- the parity for input x is x⊕s0
unfoldable pub house_parity : ℕ → ℕ → ℕ
house_parity s x = bit_xor x (s0 s)

-- the next s0 is x⊕s0⊕s1, the next s1 is s0
unfoldable pub house_next : ℕ → ℕ → ℕ
house_next s x = bit_xor (bit_xor x (s0 s)) (s1 s) + 2 * s0 s

-- the table: outputs are x, then parity
unfoldable pub house : Table
house = record {
  states = 4;
  outputs = 2;
  next = listed (λ i. house_next (i / 2) (i % 2)) 8;
  words = listed (λ i. i % 2 + 2 * house_parity (i / 2) (i % 2)) 8;
}
