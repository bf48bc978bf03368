-- A tail's inputs, written out from its number, and the words of a coder with a tail.
-- Assumes nothing.
use Rattle.std.specs.Prelude.{Some, ◌≡◌, refl, true, List, ◌++◌, ℕ, zero, suc, ◌%◌, ◌/◌, ◌∷◌, ◌≤◌, ◌<◌, length, get_or, take}
use Rattle.std.proofs.Common.{◌∙◌, ◌-◌, ◌+◌, sym, ap, arith, drop, length-drop}
use Rattle.std.proofs.lemmas.List.{drop_all, append-nil}
use borrow.Rule.Slice.PartMut.{put_mid}
use Rattle.trellis.specs.Best.{IsBits}
use Rattle.trellis.specs.declared.End.TheVariants.{Zero}
use Rattle.coder.specs.laws.Coding.{Coded}
use Rattle.coder.specs.laws.Sections.{bits_of}
use Rattle.coder.specs.laws.Tails.{IsTail}
use Rattle.coder.specs.laws.Walking.{Walked}
use Rattle.coder.proofs.laws.Coding.{coded_some, all_words}

bit_below : (n b k : ℕ) → get_or (bits_of n b) k 0 < 2
unfolding bits_of
bit_below zero b k = omega arith
bit_below (suc n) b zero = omega arith
bit_below (suc n) b (suc k) = bit_below n (b / 2) k

take_bits : (n m b : ℕ) → n ≤ m → take n (bits_of m b) ≡ bits_of n b
unfolding bits_of
take_bits zero m b h = refl
take_bits (suc n) zero b h = absurd (omega arith)
take_bits (suc n) (suc m) b h = ap (λ (l : List ℕ). b % 2 ∷ l) (take_bits n m (b / 2) (omega arith))

bits_length : (n b : ℕ) → length (bits_of n b) ≡ n
unfolding bits_of
bits_length zero b = refl
bits_length (suc n) b = ap suc (bits_length n (b / 2))

taken : {last : List ℕ} (n b : ℕ) → last ≡ bits_of 4 b → n ≤ 4 → take n last ≡ bits_of n b
taken n b is few = rw is (take_bits n 4 b few)

pub inputs_bits : {last : List ℕ} (n b : ℕ) → last ≡ bits_of 4 b → n ≤ 4 → IsBits (length (take n last)) (take n last)
inputs_bits n b is few = rw (taken n b is few) (record { size = refl; bit = bit_below n b })

-- what comes back in place of the end of a list
end_back : (k : ℕ) (xs ys : List ℕ) → k ≤ length xs → put_mid k (length xs - k) xs ys ≡ take k xs ++ ys
end_back k xs ys h =
    ap (λ (l : List ℕ). take k xs ++ (ys ++ l)) (drop_all (length xs - k) (drop k xs) (omega (arith, length-drop k xs)))
    ∙ ap (λ (l : List ℕ). take k xs ++ l) (append-nil ys)

-- the inputs' words, then the tail's
pub coded_tailed : {next words xs front last end : List ℕ} {s t b n : ℕ} → Walked next words 0 xs s front → IsTail next s n (Some b) →
    last ≡ bits_of 4 b → n ≤ 4 → Walked next words s (take n last) t end → length front ≡ length xs + n → length end ≡ n →
    Coded next words Zero n xs true (put_mid (length xs) (length front - length xs) front end)
coded_tailed {xs = xs} {front = front} {end = end} {b = b} {n = n} walked tail is few more long end_long =
    let rest = rw (taken n b is few) at more in
    let wrote = all_words rest (end_long ∙ sym (bits_length n b)) in
    rw (end_back (length xs) front end (omega arith))
    (coded_some walked tail (record { is = λ states o. ap (λ (l : List ℕ). take (length xs) front ++ l) (sym (wrote states o)) }))
