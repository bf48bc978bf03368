-- The whole result of building a table from taps into two lists that are lent (document 02, request 1).
-- Assumes nothing.
use Rattle.std.specs.Prelude.{Bool, not, ◌&&◌, ◌||◌, List, [], ◌∷◌, ℕ, ◌+◌, ◌*◌, ◌%◌, ◌^◌, eqb, leb, ltb, length}
use Rattle.refusal.specs.declared.Refusal.TheVariants.{Shape, Polynomial}
use Rattle.refusal.specs.Refusals.{Reply, Check, ◌unless◌, first_of, after}
use Rattle.taps.specs.Taps.{taps_table}

-- memory, feedback number and parity number
pub record TapsCall : Type 0 where
  pub memory : ℕ
  pub feedback : ℕ
  pub parity : ℕ

-- the lists that the table is built into
pub record TapsLent : Type 0 where
  pub next : List ℕ
  pub words : List ℕ

-- the same, from what the entry is lent
abbrev pub taps_call_of : ℕ → ℕ → ℕ → TapsCall
taps_call_of memory feedback parity = record { memory = memory; feedback = feedback; parity = parity }

abbrev pub taps_lent_of : List ℕ → List ℕ → TapsLent
taps_lent_of next words = record { next = next; words = words }

-- memory is 1..4
unfoldable pub memory_fits : ℕ → Bool
memory_fits m = leb 1 m && leb m 4

-- both lists are 2·2^m long; they are measured only where m is in range (not so: 2)
unfoldable pub taps_lists_fit : ℕ → ℕ → ℕ → Bool
taps_lists_fit m next words = not (memory_fits m) || (eqb next (2 * 2 ^ m) && eqb words (2 * 2 ^ m))

-- m is in range, both tap numbers are below 2^(m+1), and the feedback number is odd (not so: 15)
unfoldable pub taps_fit : ℕ → ℕ → ℕ → Bool
taps_fit m feedback parity = memory_fits m && (ltb feedback (2 ^ (m + 1)) && ltb parity (2 ^ (m + 1)) && eqb (feedback % 2) 1)

-- the checks of a call, in their order
unfoldable pub taps_checks : TapsCall → TapsLent → List Check
taps_checks c l =
    Shape unless taps_lists_fit c.memory (length l.next) (length l.words)
    ∷ Polynomial unless taps_fit c.memory c.feedback c.parity
    ∷ []

-- the reply, and both lists as they are left
pub record TapsResult : Type 0 where
  pub reply : Reply
  pub lists : TapsLent

abbrev pub taps_result_of : Reply → List ℕ → List ℕ → TapsResult
taps_result_of r next words = record { reply = r; lists = taps_lent_of next words }

unfoldable pub taps_built : TapsCall → TapsLent → TapsResult
taps_built c l =
    let r = first_of (taps_checks c l) in
    let t = taps_table c.memory c.feedback c.parity in
    taps_result_of r (after r t.next l.next) (after r t.words l.words)
