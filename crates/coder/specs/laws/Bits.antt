-- Lists of bits: those that pass the coder's test, and one that is interleaved.
-- Assumes nothing.
use Rattle.std.specs.Prelude.{◌≡◌, refl, true, List, ℕ, ◌<◌, ltb, length, get_or}
use Rattle.std.proofs.Math.Decide.{dec_lt}
use Rattle.std.proofs.Common.{arith, ltb-true}
use Rattle.std.proofs.Math.ListN.{get_or-eq_default}
use Rattle.lists.specs.Lists.{every}
use Rattle.lists.specs.laws.Every.{every_at}
use Rattle.trellis.specs.Best.{IsBits}
use Rattle.frame.specs.Interleaver.{interleave}
use Rattle.frame.specs.laws.Interleaving.{Permutes}
use Rattle.frame.proofs.laws.Interleaving.{interleave_at, interleave_length}

-- what is past the end reads as 0
bits_are : {n : ℕ} (xs : List ℕ) → length xs ≡ n → ((k : ℕ) → k < n → get_or xs k 0 < 2) → IsBits n xs
bits_are {n} xs e h = record { size = e; bit = bit }
  where
    bit : (k : ℕ) → get_or xs k 0 < 2
    bit k = elim (dec_lt k n) [ yes l ↦ h k l | no l ↦ rw (get_or-eq_default xs 0 {n = k} (omega arith)) (omega arith) ]

pub bits_tested : (xs : List ℕ) → every (λ b. ltb b 2) xs ≡ true → IsBits (length xs) xs
bits_tested xs e = bits_are xs refl (λ k l. ltb-true (get_or xs k 0) 2 (every_at (λ b. ltb b 2) 0 xs e k l))

pub bits_interleaved : {k : ℕ} {p xs : List ℕ} → Permutes k p → IsBits k xs → IsBits k (interleave 0 p xs)
bits_interleaved {k} {p} {xs} w bits =
    bits_are (interleave 0 p xs) (interleave_length 0 k p w xs) (λ i l. rw (interleave_at 0 k p w xs i l) (bits.bit (get_or p i 0)))
