-- Codes named by their taps, the proof: every table that the builder leaves is a code for frames with two zero ends and as many tail sections as its memory.
-- Assumes nothing.
use Rattle.std.specs.Prelude.{◌≡◌, true, ℕ, ◌^◌, Ok}
use Rattle.std.proofs.Common.{arith}
use Rattle.refusal.specs.laws.Kept.{after_done}
use Rattle.trellis.specs.Table.{Table, table_of}
use Rattle.taps.specs.Taps.{taps_table}
use Rattle.taps.specs.Build.{TapsCall, TapsLent, memory_fits, taps_built}
use Rattle.taps.specs.laws.Filling.{buildable}
use Rattle.taps.specs.laws.Tables.{taps_shaped, taps_branched, taps_systematic}
use Rattle.taps.proofs.laws.Tails.{tail_inputs, a_way, one_way}
use Rattle.demands.specs.Codes.{HasOneTail, IsCode}
use Rattle.demands.proofs.laws.Tailed.{always_codes, always_decodes}

module _ (m feedback parity : ℕ) where
  -- whatever the memory and the taps
  pub taps_have_one_tail : HasOneTail (taps_table m feedback parity) m
  unfolding taps_table
  taps_have_one_tail = record {
    tail = tail_inputs m feedback parity m;
    leads = a_way m feedback parity;
    only = λ s state p back. one_way m feedback parity 0 m s p _ (omega arith) state back (a_way m feedback parity s state);
  }

  pub taps_are_a_code : memory_fits m ≡ true → IsCode (taps_table m feedback parity) m
  taps_are_a_code fits =
      let shape = taps_shaped m feedback parity fits in
      let branches = taps_branched m feedback parity in
      record {
        shape = shape;
        branches = branches;
        first_output = taps_systematic m feedback parity;
        one_tail = taps_have_one_tail;
        codes = always_codes _ m shape branches taps_have_one_tail;
        decodes = always_decodes _ m shape branches taps_have_one_tail;
      }

-- what the builder leaves where it is done
module _ (c : TapsCall) (l : TapsLent) (done : (taps_built c l).reply ≡ Ok tt) where
  abbrev left : Table
  left = table_of (2 ^ c.memory) 2 (taps_built c l).lists.next (taps_built c l).lists.words

  left_is : taps_table c.memory c.feedback c.parity ≡ left
  unfolding taps_built taps_table
  left_is = rw (after_done done, after_done done)

  pub every_built_table_is_a_code : IsCode left c.memory
  unfolding taps_built
  every_built_table_is_a_code = rw left_is at (taps_are_a_code c.memory c.feedback c.parity (buildable c l done).memory)
