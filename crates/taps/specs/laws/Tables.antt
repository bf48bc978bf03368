-- Every table from taps, for every memory at once: its branches, and that it is shaped, branched and systematic.
-- Assumes nothing.
use Rattle.std.specs.Prelude.{◌≡◌, refl, true, ℕ, ◌+◌, ◌*◌, ◌/◌, ◌%◌, ◌^◌, ◌<◌, length}
use Rattle.std.proofs.Math.Path.{ap₂}
use Rattle.std.proofs.Common.{◌∙◌, mod-lt, arith, pow_pos, eq-eqb, le-leb, lt-ltb}
use Rattle.lists.specs.laws.Every.{at_every, at_every_upto}
use Rattle.lists.specs.laws.Listed.{listed_length, listed_at}
use Rattle.lists.specs.laws.Tests.{and_true}
use Rattle.trellis.specs.Table.{Table, next_state, word, output, systematic, shaped, branched}
use Rattle.taps.specs.Taps.{odd_under, register_of, taps_next, taps_parity, next_entry, word_entry, taps_table}
use Rattle.taps.specs.Build.{memory_fits}
use Rattle.taps.specs.laws.Filling.{few_states}

pub odd_below : (taps register : ℕ) → odd_under taps register < 2
unfolding odd_under
odd_below taps register = omega arith

module _ (m feedback parity : ℕ) where
  abbrev table : Table
  table = taps_table m feedback parity

  -- ---- one branch

  module _ (s b : ℕ) (state : s < 2 ^ m) (bit : b < 2) where
    half : (2 * s + b) / 2 ≡ s
    half = omega arith

    rest : (2 * s + b) % 2 ≡ b
    rest = omega arith

    pub next_of : next_state table s b ≡ taps_next (2 ^ m) feedback s b
    unfolding next_state taps_table
    next_of = listed_at (next_entry (2 ^ m) feedback) (2 * 2 ^ m) (2 * s + b) 0 (omega arith) ∙ ap₂ (taps_next (2 ^ m) feedback) half rest

    pub word_of : word table s b ≡ b + 2 * taps_parity feedback parity s b
    unfolding word taps_table
    word_of =
        listed_at (word_entry feedback parity) (2 * 2 ^ m) (2 * s + b) 0 (omega arith)
        ∙ ap₂ (λ (r x : ℕ). x + 2 * taps_parity feedback parity r x) half rest

  -- ---- all of them

  next_long : length table.next ≡ 2 * 2 ^ m
  unfolding taps_table
  next_long = listed_length (next_entry (2 ^ m) feedback) (2 * 2 ^ m)

  words_long : length table.words ≡ 2 * 2 ^ m
  unfolding taps_table
  words_long = listed_length (word_entry feedback parity) (2 * 2 ^ m)

  pub taps_shaped : memory_fits m ≡ true → shaped table ≡ true
  unfolding shaped taps_table
  taps_shaped fits =
      let few = few_states m fits in
      and_true
      (and_true (and_true (le-leb 1 (2 ^ m) few.some) (le-leb (2 ^ m) 16 few.few)) refl)
      (and_true (eq-eqb _ _ next_long) (eq-eqb _ _ words_long))

  pub taps_branched : branched table ≡ true
  unfolding branched taps_table taps_next taps_parity
  taps_branched =
      and_true
      (at_every _ 0 table.next (λ i l.
      let here : i < 2 * 2 ^ m = omega (arith, next_long) in
      rw (listed_at (next_entry (2 ^ m) feedback) (2 * 2 ^ m) i 0 here) (lt-ltb _ _ (mod-lt _ (pow_pos m)))))
      (at_every _ 0 table.words (λ i l.
      let here : i < 2 * 2 ^ m = omega (arith, words_long) in
      rw (listed_at (word_entry feedback parity) (2 * 2 ^ m) i 0 here)
      (lt-ltb (word_entry feedback parity i) 4 (omega (arith, odd_below parity (register_of feedback (i / 2) (i % 2)))))))

  -- output 1 is the input
  first_output : (s b : ℕ) → s < 2 ^ m → b < 2 → output (word table s b) 0 ≡ b
  unfolding output
  first_output s b state bit = rw (word_of s b state bit) (omega arith)

  pub taps_systematic : systematic table ≡ true
  unfolding systematic taps_table
  taps_systematic =
      at_every_upto _ (2 ^ m) (λ s l. and_true (eq-eqb _ 0 (first_output s 0 l (omega arith))) (eq-eqb _ 1 (first_output s 1 l (omega arith))))
