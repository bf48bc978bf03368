-- What `is_systematic` goes by: output 1 of both branches of a state, as the code looks at it, and the states as the definition lists them.
-- Assumes nothing.
use Rattle.std.specs.Prelude.{◌≡◌, Bool, ◌&&◌, ℕ, ◌+◌, ◌*◌, ◌/◌, ◌%◌, ◌<◌, eqb, ltb, List, length, get_or}
use Rattle.std.specs.List.{list_all, range_with_len}
use Rattle.std.proofs.Common.{sym, ap, ◌∙◌, arith, lt-ltb, le-ltb}
use Rattle.std.proofs.Math.Bool.{and-false}
use Rattle.std.proofs.Math.Decide.{dec_lt}
use Rattle.std.proofs.Math.Seq.{ext_get_or}
use Rattle.std.proofs.lemmas.List.FromFn.{length-range_with_len, get_or-range_with_len}
use native.Mathlib.Nat.{add-zero}
use lib.ListN.{get_or-eq_default}
use Rattle.lists.specs.Lists.{listed, upto}
use Rattle.lists.specs.laws.Listed.{listed_length, listed_at}
use Rattle.lists.specs.laws.Chains.{every_all}
use Rattle.trellis.specs.Table.{table_of, systematic, word, output}

-- output 1 of both branches of a state is their input bit
pub own : List ℕ → ℕ → Bool
own words s = eqb (output (get_or words (2 * s + 0) 0) 0) 0 && eqb (output (get_or words (2 * s + 1) 0) 0) 1

last_bit : (w : ℕ) → output w 0 ≡ w % 2
unfolding output
last_bit w = omega arith

-- what the code looks at: a state whose second branch has an entry, and the last bits of both words
pub looked : (words : List ℕ) (s : ℕ) → (ltb s (length words / 2) && (eqb (get_or words (2 * s) 0 % 2) 0 && eqb (get_or words (2 * s + 1) 0 % 2) 1)) ≡ own words s
unfolding own
looked words s = elim (dec_lt s (length words / 2)) [
  | yes l ↦ rw (lt-ltb s (length words / 2) l) (simp (add-zero, last_bit))
  | no l ↦ rw (le-ltb s (length words / 2) (omega arith)) (let z = get_or-eq_default words 0 {n = 2 * s + 1} (omega arith) in simp (add-zero, last_bit, z, and-false))
]

states_are : (n : ℕ) → range_with_len 0 n ≡ upto n
unfolding upto
states_are n = ext_get_or 0 (range_with_len 0 n) (listed (λ i. i) n) (length-range_with_len 0 n ∙ sym (listed_length (λ i. i) n)) same_at
  where
    same_at : (i : ℕ) → i < length (range_with_len 0 n) → get_or (range_with_len 0 n) i 0 ≡ get_or (listed (λ i. i) n) i 0
    same_at i h =
        let l : i < n = omega (arith, length-range_with_len 0 n) in
        let e : 0 + i ≡ i = omega arith in
        get_or-range_with_len 0 n i 0 l ∙ e ∙ sym (listed_at (λ i. i) n i 0 l)

-- a search through the states, as the definition has it
pub all_states : (states outputs : ℕ) (next words : List ℕ) → list_all (own words) (range_with_len 0 states) ≡ systematic (table_of states outputs next words)
unfolding systematic word own
all_states states outputs next words = ap (list_all (own words)) (states_are states) ∙ every_all (own words) (upto states)
