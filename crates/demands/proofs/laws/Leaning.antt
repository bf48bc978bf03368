-- Values that lean towards bits, each of its bit's sign or 0: they still do when they are handed over, interleaved and deinterleaved. And margins
-- that tell bits, each of its bit's sign: they are decided as those bits.
-- Assumes nothing.
use Rattle.std.specs.Prelude.{◌≡◌, List, map, ℕ, ◌<◌, ℤ, pos, ◌≤ℤ◌, ◌<ℤ◌, length, get_or, replicate}
use Rattle.std.proofs.Common.{sym, ◌∙◌, arith, ext_get_or}
use Rattle.std.specs.Int.Signed.{≤ℤ_refl}
use Rattle.std.proofs.lemmas.List.{length-map, length-replicate, get_or-replicate}
use Rattle.lists.specs.laws.Listed.{map_at}
use Rattle.trellis.specs.Path.{signed}
use Rattle.trellis.proofs.laws.Signs.{signed_zero}
use Rattle.frame.specs.Interleaver.{place, interleave, deinterleave}
use Rattle.frame.specs.laws.Interleaving.{Permutes}
use Rattle.frame.proofs.laws.Interleaving.{interleave_at, interleave_length, deinterleave_at, deinterleave_length}
use Rattle.soft.specs.Soft.{hand_over, decided}
use Rattle.soft.specs.laws.HandOver.{handed_keeps_sign, decided_is}

-- K values, each of which has its bit's sign or is 0
pub record Leans (k : ℕ) (bits : List ℕ) (a : List ℤ) : Type 0 where
  pub long : length a ≡ k
  pub signs : (i : ℕ) → i < k → pos 0 ≤ℤ signed (get_or bits i 0) (get_or a i (pos 0))

-- K values, each of which has its bit's sign
pub record Tells (k : ℕ) (bits : List ℕ) (m : List ℤ) : Type 0 where
  pub long : length m ≡ k
  pub signs : (i : ℕ) → i < k → pos 0 <ℤ signed (get_or bits i 0) (get_or m i (pos 0))

pub zero_leans : (b : ℕ) → pos 0 ≤ℤ signed b (pos 0)
zero_leans b = rw (signed_zero b) (≤ℤ_refl (pos 0))

pub zeros_lean : (k : ℕ) (bits : List ℕ) → Leans k bits (replicate k (pos 0))
zeros_lean k bits = record { long = length-replicate k (pos 0); signs = λ i h. rw (get_or-replicate k i (pos 0) (pos 0) h) (zero_leans (get_or bits i 0)) }

pub handed_leans : {k : ℕ} {bits : List ℕ} {a : List ℤ} → Leans k bits a → Leans k bits (map hand_over a)
handed_leans {k} {bits} {a} w = record {
  long = length-map a hand_over ∙ w.long;
  signs = λ i h.
      rw (map_at hand_over a i (pos 0) (pos 0) (omega (arith, w.long))) (handed_keeps_sign (get_or bits i 0) (get_or a i (pos 0)) (w.signs i h));
}

pub decided_all : {k : ℕ} {bits : List ℕ} {m : List ℤ} → length bits ≡ k → ((i : ℕ) → i < k → get_or bits i 0 < 2) → Tells k bits m →
    map decided m ≡ bits
decided_all {k} {bits} {m} long bit w =
    ext_get_or 0 (map decided m) bits (length-map m decided ∙ w.long ∙ sym long) (λ i h. at i (omega (arith, length-map m decided, w.long)))
  where
    at : (i : ℕ) → i < k → get_or (map decided m) i 0 ≡ get_or bits i 0
    at i h = map_at decided m i (pos 0) 0 (omega (arith, w.long)) ∙ decided_is (get_or bits i 0) (get_or m i (pos 0)) (bit i h) (w.signs i h)

-- ---- in the pattern's order and back

module _ {k : ℕ} {p : List ℕ} (w : Permutes k p) {bits : List ℕ} {a : List ℤ} where
  pub interleaved_leans : Leans k bits a → Leans k (interleave 0 p bits) (interleave (pos 0) p a)
  interleaved_leans l = record {
    long = interleave_length (pos 0) k p w a;
    signs = λ i h. rw (interleave_at 0 k p w bits i h, interleave_at (pos 0) k p w a i h) (l.signs (get_or p i 0) (w.below i h));
  }

  pub deinterleaved_leans : Leans k (interleave 0 p bits) a → Leans k bits (deinterleave (pos 0) p a)
  deinterleaved_leans l = record { long = deinterleave_length (pos 0) k p w a; signs = λ x h. at x (place x p) (w.place_below x h) (w.at_place x h) }
    where
      -- entry i of the list goes to x
      at : (x i : ℕ) → i < k → get_or p i 0 ≡ x → pos 0 ≤ℤ signed (get_or bits x 0) (get_or (deinterleave (pos 0) p a) x (pos 0))
      at x i h e = rw (← e, deinterleave_at (pos 0) k p w a i h) (rw (interleave_at 0 k p w bits i h) at (l.signs i h))
