-- Laws of one section as the code holds it: with the metrics of its words, what is read of a branch is inside, it leads to a state, and its metric is small.
-- Assumes nothing.
use mathlib.Core.Path.{◌≡◌, ◌∙◌}
use mathlib.Core.List.{List}
use Prim.Native.Nat.{ℕ, ◌+◌, ◌*◌, ◌^◌, ◌<◌, ◌≤◌}
use native.Mathlib.Omega.{arith}
use lib.IntN.{ℤ, pos}
use lib.ListN.{length, get_or}
use lib.Pow.{pow_mono}
use Rattle.integers.specs.laws.Bounds.{Within}
use Rattle.integers.specs.laws.Laws.{within_more, within_sum}
use Rattle.trellis.proofs.laws.Signs.{signed_within}
use Rattle.trellis.specs.laws.Sizes.{Small}
use Rattle.trellis.proofs.laws.Sizes.{small_more, word_within}
use Rattle.trellis.specs.laws.Sweeps.{Row}
use Rattle.siso.specs.laws.Held.{branch_metric_of, WordMetrics, Ready, Branches, Held}

pub state_small : {states : ℕ} {r : Row} → Held states r → (s : ℕ) → s < states → Small 100000000 (r s)
state_small h s state = small_more (omega arith) (h.small s state)

-- the metrics of the words of a section that is ready are small
pub ready_branches :
    {states : ℕ} {next words : List ℕ} {channel : List ℤ} {room : ℕ} {g : List ℤ} {a : ℤ}
    → Ready states next words channel room a → length g ≡ room → WordMetrics channel g → Branches states next words g a
ready_branches {channel} {g} ready same metrics =
    let many : length g ≡ 2 ^ length channel = same ∙ ready.enough in
    record {
      few = ready.few;
      nexts = ready.nexts;
      all_words = ready.all_words;
      stays = ready.stays;
      known = λ i l. rw many (ready.known i l);
      few_words = rw many (pow_mono ready.outputs);
      word = λ w l. rw (metrics w l) (within_more (omega (arith, ready.outputs)) (word_within w (length channel) ready.values));
      apriori = ready.apriori;
    }

-- the branch at place i of the lists of a table
pub record Read (states i : ℕ) (next words : List ℕ) (g : List ℤ) : Type 0 where
  pub few : states ≤ 16
  pub in_next : i < length next
  pub in_words : i < length words
  pub leads : get_or next i 0 < states
  pub known : get_or words i 0 < length g
  pub few_words : length g ≤ 16
  pub small : Within 4092 (get_or g (get_or words i 0) (pos 0))

module _ {states : ℕ} {next words : List ℕ} {g : List ℤ} {a : ℤ} (t : Branches states next words g a) where
  -- of state s and bit b
  pub branch_read : (s b : ℕ) → s < states → b < 2 → Read states (2 * s + b) next words g
  branch_read s b state bit =
      let branch : 2 * s + b < 2 * states = omega arith in
      record {
        few = t.few;
        in_next = omega arith;
        in_words = omega arith;
        leads = t.stays _ branch;
        known = t.known _ branch;
        few_words = t.few_words;
        small = t.word _ (t.known _ branch);
      }

  pub branch_small : (s b : ℕ) → s < states → b < 2 → Within 12283 (branch_metric_of words g a s b)
  branch_small s b state bit = within_sum (signed_within b t.apriori) (branch_read s b state bit).small
