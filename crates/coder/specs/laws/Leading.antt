-- A table that passed the checks leads from state to state, as the coder that walks it needs it.
-- Assumes nothing.
use Rattle.std.specs.Prelude.{◌≡◌, true, List, ℕ, ◌+◌, ◌*◌, ◌<◌, ◌≤◌, ltb, length, get_or}
use Rattle.std.proofs.Common.{arith, ltb-true}
use Rattle.lists.specs.laws.Every.{every_at}
use Rattle.lists.specs.laws.Tests.{and_left}
use Rattle.trellis.specs.Table.{Table, shaped, branched}
use Rattle.trellis.specs.laws.Branches.{shaped_is}

-- next states that lead among the states, of which s is one
pub record Leads (next : List ℕ) (s : ℕ) : Type 0 where
  pub stays : (i : ℕ) → i < length next → 2 * get_or next i 0 + 1 < length next
  pub starts : 2 * s + 1 < length next
  pub few : length next ≤ 32

pub table_leads : (t : Table) → shaped t ≡ true → branched t ≡ true → Leads t.next 0
unfolding branched
table_leads t e b =
    let shape = shaped_is t e in
    let below = every_at (λ s. ltb s t.states) 0 t.next (and_left _ _ b) in
    record {
      stays = λ i h. omega (arith, shape.next_length, ltb-true (get_or t.next i 0) t.states (below i h));
      starts = omega (arith, shape.next_length, shape.some_state);
      few = omega (arith, shape.next_length, shape.most_states);
    }
