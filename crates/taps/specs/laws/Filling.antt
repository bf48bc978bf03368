-- What the builder of a table relies on and what it leaves: as many states as its memory says, and both lists filled.
-- Assumes nothing.
use Rattle.std.specs.Prelude.{◌≡◌, true, List, ℕ, ◌+◌, ◌*◌, ◌^◌, ◌≤◌, ◌<◌, min, leb, length, Ok, Err}
use Rattle.std.proofs.Common.{sym, add-one, arith, pow_pos, pow_mono}
use Rattle.std.proofs.Math.Nat.{pow-succ'}
use borrow.Author.Tests.{leb-true, eqb-true}
use Rattle.lists.specs.Lists.{listed}
use Rattle.lists.specs.laws.Tests.{and_left, and_right, and_both}
use Rattle.refusal.specs.declared.Refusal.{Refusal}
use Rattle.refusal.specs.Refusals.{first_of, after}
use Rattle.refusal.specs.laws.InTurn.{Each, each_holds}
use Rattle.taps.specs.Taps.{next_entry, word_entry, taps_table}
use Rattle.taps.specs.Build.{TapsCall, TapsLent, taps_result_of, memory_fits, taps_lists_fit, taps_fit, taps_checks, taps_built}

-- a number of states within the limits
pub record FewStates (states : ℕ) : Type 0 where
  pub some : 0 < states
  pub few : states ≤ 16

-- both lists hold every branch
pub record BuiltBy (states feedback parity : ℕ) (next words : List ℕ) : Type 0 where
  pub next_is : next ≡ listed (next_entry states feedback) (2 * states)
  pub words_are : words ≡ listed (word_entry feedback parity) (2 * states)

-- ---- a memory in range has few states

module _ (m : ℕ) (fits : memory_fits m ≡ true) where
  pub few_memory : m ≤ 4
  unfolding memory_fits
  few_memory = leb-true m 4 (and_right (leb 1 m) (leb m 4) fits)

  pub counted_states : {n : ℕ} → n ≡ 2 ^ min m 4 → n ≡ 2 ^ m
  counted_states e = let few : min m 4 ≡ m = omega (arith, few_memory) in rw few at e

  pub few_states : FewStates (2 ^ m)
  few_states = record { some = pow_pos m; few = pow_mono few_memory }

-- twice as many is the limit of a tap number
pub tap_limit : (m : ℕ) → 2 * 2 ^ m ≡ 2 ^ (m + 1)
tap_limit m = rw add-one (sym (pow-succ' 2 m))

-- what the checks of a memory and of taps go by
pub ruleset counts = (few_states, counted_states, tap_limit)

-- ---- a call: refused, or built

module _ (c : TapsCall) (l : TapsLent) where
  -- what the checks tell of a call that they pass
  pub record Buildable : Type 0 where
    pub memory : memory_fits c.memory ≡ true
    pub next_long : length l.next ≡ 2 * 2 ^ c.memory
    pub words_long : length l.words ≡ 2 * 2 ^ c.memory

  pub buildable : first_of (taps_checks c l) ≡ Ok tt → Buildable
  unfolding taps_checks Each taps_lists_fit taps_fit
  buildable e =
      let (lists, (taps, end)) = each_holds (taps_checks c l) e in
      let memory = and_left (memory_fits c.memory) _ taps in
      let (next, words) = and_both _ _ (rw memory at lists) in
      record { memory = memory; next_long = eqb-true _ _ next; words_long = eqb-true _ _ words }

  pub built_refused : (r : Refusal) → first_of (taps_checks c l) ≡ Err r → taps_result_of (Err r) l.next l.words ≡ taps_built c l
  unfolding taps_built after
  built_refused r e = rw e

  pub built_done : {next words : List ℕ} → first_of (taps_checks c l) ≡ Ok tt → BuiltBy (2 ^ c.memory) c.feedback c.parity next words →
      taps_result_of (Ok tt) next words ≡ taps_built c l
  unfolding taps_built after taps_table
  built_done e built = rw (e, built.next_is, built.words_are)
