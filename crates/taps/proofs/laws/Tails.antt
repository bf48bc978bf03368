-- From every state of a table from taps exactly one list of m inputs leads to state 0, for every memory m at once.
-- Assumes nothing.
use Rattle.std.specs.Prelude.{◌≡◌}
use Rattle.std.proofs.Math.Path.{refl, sym, ap, ap₂}
use Rattle.std.proofs.Common.{◌∙◌, suc-ne-zero, mod-lt, add-one, pow_pos, shr-shr}
use mathlib.Core.List.{List, [], ◌∷◌}
use Prim.Native.Nat.{ℕ, zero, suc, ◌+◌, ◌*◌, ◌/◌, ◌%◌, ◌^◌, ◌<◌}
use Rattle.std.proofs.Math.Nat.{suc_inj, zero-div, mod-eq_of_lt}
use native.Mathlib.Omega.{arith}
use Rattle.std.proofs.lemmas.Nat.{mod-pow-add}
use Rattle.std.proofs.Math.Pow.{field, mod-mod-pow}
use Rattle.trellis.specs.Table.{Table, next_state}
use Rattle.trellis.specs.Path.{finish}
use Rattle.trellis.specs.Best.{IsBits, IsTerminating}
use Rattle.taps.specs.Taps.{odd_under, new_bit, register_of, taps_next, taps_table}
use Rattle.taps.specs.laws.Tables.{odd_below, next_of}

later : {n b : ℕ} {p : List ℕ} → IsBits (suc n) (b ∷ p) → IsBits n p
later w = record { size = suc_inj w.size; bit = λ k. w.bit (suc k) }

module _ (m feedback parity : ℕ) where
  abbrev table : Table
  table = taps_table m feedback parity

  new_below : (s b : ℕ) → new_bit feedback s b < 2
  unfolding new_bit
  new_below s b = omega arith

  module _ (s b : ℕ) (state : s < 2 ^ m) (bit : b < 2) where
    -- a branch leads to a state
    next_below : next_state table s b < 2 ^ m
    unfolding taps_next
    next_below = rw (next_of m feedback parity s b state bit) (mod-lt _ (pow_pos m))

    -- the next state's low k bits are the register's
    next_low : (j k : ℕ) → j + k ≡ m → next_state table s b % 2 ^ k ≡ (new_bit feedback s b + 2 * s) % 2 ^ k
    unfolding taps_next register_of
    next_low j k e = rw (next_of m feedback parity s b state bit, ← e) (mod-mod-pow (new_bit feedback s b + 2 * s) j k)

  -- ---- at most one: every new bit stays in the register for m steps

  -- n steps move the state's low bits up by n
  moves : (j n s : ℕ) (p : List ℕ) → j + n ≡ m → s < 2 ^ m → IsBits n p → finish table s p / 2 ^ n ≡ s % 2 ^ j
  unfolding finish
  moves j zero s [] e state bits = let all : j ≡ m = omega arith in rw all (omega (arith, mod-eq_of_lt state))
  moves j zero s (b ∷ p) e state bits = absurd (suc-ne-zero _ bits.size)
  moves j (suc n) s [] e state bits = absurd (suc-ne-zero _ (sym bits.size))
  moves j (suc n) s (b ∷ p) e state bits =
      let next = next_state table s b in
      let end = finish table next p in
      let register = new_bit feedback s b + 2 * s in
      let bit = bits.bit 0 in
      let after : end / 2 ^ n ≡ next % 2 ^ (j + 1) = moves (j + 1) n next p (omega arith) (next_below s b state bit) (later bits) in
      let low : next % 2 ^ (j + 1) ≡ register % 2 ^ (j + 1) = next_low s b state bit n (j + 1) (omega arith) in
      let up : register / 2 ≡ s = omega (arith, new_below s b) in
      ap (λ (k : ℕ). end / 2 ^ k) (sym (add-one n))
      ∙ sym (shr-shr end n 1)
      ∙ ap (λ (x : ℕ). x / 2) (after ∙ low)
      ∙ field register j 1
      ∙ ap (λ (x : ℕ). x % 2 ^ j) up

  -- so the first new bit of a way back is 0, which settles its first input
  first_new : (j n s b : ℕ) (p : List ℕ) → j + 1 + n ≡ m → s < 2 ^ m → IsTerminating table s (suc n) (b ∷ p) → new_bit feedback s b ≡ 0
  unfolding finish
  first_new j n s b p e state back =
      let next = next_state table s b in
      let register = new_bit feedback s b + 2 * s in
      let bit = back.bits.bit 0 in
      let after = moves (j + 1) n next p e (next_below s b state bit) (later back.bits) in
      let low : next % 2 ^ (j + 1) ≡ register % 2 ^ (j + 1) = next_low s b state bit n (j + 1) (omega arith) in
      let none : register % 2 ^ (j + 1) ≡ 0 = sym low ∙ sym after ∙ rw back.ends (zero-div (2 ^ n)) in
      let even : register % 2 ≡ 0 = sym (mod-mod-pow register j 1) ∙ rw none in
      omega (arith, new_below s b)

  same_input : (s b d : ℕ) → b < 2 → d < 2 → new_bit feedback s b ≡ 0 → new_bit feedback s d ≡ 0 → b ≡ d
  unfolding new_bit
  same_input s b d h k e f = omega (arith, odd_below feedback (2 * s))

  pub one_way : (j n s : ℕ) (p q : List ℕ) → j + n ≡ m → s < 2 ^ m → IsTerminating table s n p → IsTerminating table s n q → p ≡ q
  unfolding finish
  one_way j zero s [] [] e state v w = refl
  one_way j zero s [] (d ∷ q) e state v w = absurd (suc-ne-zero _ w.bits.size)
  one_way j zero s (b ∷ p) q e state v w = absurd (suc-ne-zero _ v.bits.size)
  one_way j (suc n) s [] q e state v w = absurd (suc-ne-zero _ (sym v.bits.size))
  one_way j (suc n) s (b ∷ p) [] e state v w = absurd (suc-ne-zero _ (sym w.bits.size))
  one_way j (suc n) s (b ∷ p) (d ∷ q) e state v w =
      let more : j + 1 + n ≡ m = omega arith in
      let same : b ≡ d =
      same_input s b d (v.bits.bit 0) (w.bits.bit 0) (first_new j n s b p more state v) (first_new j n s d q more state w) in
      let rest = one_way (j + 1) n (next_state table s b) p q more (next_below s b state (v.bits.bit 0))
      (record { bits = later v.bits; ends = v.ends })
      (record { bits = later w.bits; ends = rw same w.ends }) in
      ap₂ ◌∷◌ same rest

  -- ---- at least one: the inputs whose new bits are all 0

  -- n inputs from state s, each the feedback of its state
  pub tail_inputs : ℕ → ℕ → List ℕ
  tail_inputs zero s = []
  tail_inputs (suc n) s = odd_under feedback (2 * s) ∷ tail_inputs n (next_state table s (odd_under feedback (2 * s)))

  no_new : (s : ℕ) → new_bit feedback s (odd_under feedback (2 * s)) + 2 * s ≡ 2 * s
  unfolding new_bit
  no_new s = omega arith

  -- with the low k bits clear there are n left to push out
  pushed_out : (k n s : ℕ) → k + n ≡ m → s < 2 ^ m → s % 2 ^ k ≡ 0 → IsTerminating table s n (tail_inputs n s)
  unfolding tail_inputs finish
  pushed_out k zero s e state clear =
      let all : k ≡ m = omega arith in
      record { bits = record { size = refl; bit = λ i. omega arith }; ends = sym (mod-eq_of_lt state) ∙ rw (sym all) clear }
  pushed_out k (suc n) s e state clear =
      let b = odd_under feedback (2 * s) in
      let bit = odd_below feedback (2 * s) in
      let next = next_state table s b in
      let low : next % 2 ^ (k + 1) ≡ (new_bit feedback s b + 2 * s) % 2 ^ (k + 1) = next_low s b state bit n (k + 1) (omega arith) in
      let half : 2 * s / 2 ≡ s = omega arith in
      let even : 2 * s % 2 ≡ 0 = omega arith in
      let clear_next : next % 2 ^ (k + 1) ≡ 0 = low ∙ rw (no_new s) (mod-pow-add (2 * s) k 1 ∙ rw (half, clear, even)) in
      let rest = pushed_out (k + 1) n next (omega arith) (next_below s b state bit) clear_next in
      record {
        bits = record { size = ap suc rest.bits.size; bit = elim [ zero ↦ bit | suc i ↦ rest.bits.bit i ] };
        ends = rest.ends;
      }

  pub a_way : (s : ℕ) → s < 2 ^ m → IsTerminating table s m (tail_inputs m s)
  a_way s state = pushed_out 0 m s (omega arith) state (omega arith)
