-- What the tests on a table tell: its limits, that every branch leads to a state, and that a systematic table's first output is the input bit.
-- Assumes nothing.
use Rattle.std.specs.Prelude.{◌≡◌, true, eqb, length}
use Prim.Native.Nat.{ℕ, zero, suc, ◌+◌, ◌*◌, ◌≤◌, ◌<◌}
use Rattle.std.proofs.Common.{arith}
use Rattle.std.proofs.Math.Dec.{ltb}
use borrow.Author.Tests.{eqb-true, leb-true, ltb-true}
use Rattle.lists.specs.laws.Tests.{and_left, and_both}
use Rattle.lists.specs.laws.Every.{every_at, every_upto_at}
use Rattle.trellis.specs.Table.{Table, next_state, word, output, systematic, shaped, branched}

-- within the limits, and both lists are as long as there are branches
pub record Shaped (t : Table) : Type 0 where
  pub some_state : 1 ≤ t.states
  pub most_states : t.states ≤ 16
  pub some_output : 1 ≤ t.outputs
  pub most_outputs : t.outputs ≤ 4
  pub next_length : length t.next ≡ 2 * t.states
  pub words_length : length t.words ≡ 2 * t.states

pub shaped_is : (t : Table) → shaped t ≡ true → Shaped t
unfolding shaped
shaped_is t e =
    let (limits, lengths) = and_both _ _ e in
    let (states, outputs) = and_both _ _ limits in
    let (next, words) = and_both _ _ lengths in
    let (some_state, most_states) = and_both _ _ states in
    let (some_output, most_outputs) = and_both _ _ outputs in
    record {
      some_state = leb-true 1 t.states some_state;
      most_states = leb-true t.states 16 most_states;
      some_output = leb-true 1 t.outputs some_output;
      most_outputs = leb-true t.outputs 4 most_outputs;
      next_length = eqb-true (length t.next) (2 * t.states) next;
      words_length = eqb-true (length t.words) (2 * t.states) words;
    }

module _ (t : Table) (s b : ℕ) (state : s < t.states) (bit : b < 2) where
  -- a branch leads to a state
  pub next_below : shaped t ≡ true → branched t ≡ true → next_state t s b < t.states
  unfolding next_state branched
  next_below e f = ltb-true _ _ (every_at (λ r. ltb r t.states) 0 t.next (and_left _ _ f) (2 * s + b) (omega (arith, shaped_is t e)))

  -- its first output is the input bit
  pub systematic_at_lem : systematic t ≡ true → output (word t s b) 0 ≡ b
  unfolding systematic
  systematic_at_lem e = go b bit (and_both _ _ (every_upto_at _ t.states e s state))
    where
      go : (b : ℕ) → b < 2 → (eqb (output (word t s 0) 0) 0 ≡ true) × (eqb (output (word t s 1) 0) 1 ≡ true) → output (word t s b) 0 ≡ b
      go zero h p = eqb-true _ 0 p.0
      go (suc zero) h p = eqb-true _ 1 p.1
      go (suc (suc b)) h p = absurd (omega arith)
