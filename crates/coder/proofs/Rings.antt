-- A ring's states tried from 0 on: none before a state is returned to itself.
-- Assumes nothing.
use Rattle.std.specs.Prelude.{◌≡◌, ◌≢◌, false, ℕ, ◌+◌, ◌/◌, ◌≤◌, ◌<◌, List, length}
use Rattle.std.proofs.Common.{◌∙◌, arith}
use native.Mathlib.Decide.{ℕ_discrete}
use Rattle.std.proofs.Math.Option.{some}
use Rattle.trellis.specs.declared.End.TheVariants.{Ring}
use Rattle.trellis.specs.Table.{table_of}
use Rattle.trellis.specs.Path.{finish}
use Rattle.coder.specs.laws.Coding.{Coded, coded_words}
use Rattle.coder.specs.laws.Leading.{Leads}
use Rattle.coder.specs.laws.Walking.{Walked}
use Rattle.coder.proofs.laws.Coding.{coded_ring, coded_no_ring}

-- the inputs return no state below s to itself
pub record NoneBelow (next words xs : List ℕ) (s : ℕ) : Type 0 where
  pub none : (outputs r : ℕ) → r < s → finish (table_of (length next / 2) outputs next words) r xs ≢ r

module _ {next words xs : List ℕ} where
  pub none_below_0 : NoneBelow next words xs 0
  none_below_0 = record { none = λ o r l. absurd (omega arith) }

  module _ {s reached : ℕ} {out : List ℕ} (walked : Walked next words s xs reached out) (before : NoneBelow next words xs s) where
    pub none_below_more : (reached ≡ s → ⊥) → NoneBelow next words xs (s + 1)
    none_below_more d = record {
      none = λ o r l. elim (ℕ_discrete r s) [
        | yes e ↦ rw e (λ h. d (walked.ends _ o ∙ h))
        | no ne ↦ before.none o r (omega arith)
      ];
    }

    pub ring_is : reached ≡ s → length out ≡ length xs → s < length next / 2 →
        (n outputs : ℕ) → coded_words (table_of (length next / 2) outputs next words) Ring n xs ≡ some out
    ring_is e same state n = (coded_ring n (rw e at walked) same state before.none).is

  pub no_ring : {s : ℕ} → NoneBelow next words xs s → length next / 2 ≤ s → (n : ℕ) (out : List ℕ) → Coded next words Ring n xs false out
  no_ring before h n out = coded_no_ring n out (λ o r l. before.none o r (omega arith))

-- every state leads on
pub leads_from : (next : List ℕ) (s : ℕ) → Leads next 0 → s < length next / 2 → Leads next s
leads_from next s w l = record { stays = w.stays; starts = omega arith; few = w.few }

-- what code_ring goes by, from state to state
pub ruleset rings = (none_below_0, none_below_more, ring_is, no_ring, leads_from)
