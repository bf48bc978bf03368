-- The rules of handing over and of deciding, by the laws that proofs use: what is handed over keeps its sign or is 0 and stays within the
-- a-priori limit, and a margin that has its bit's sign is decided as that bit. The proof of demand 2 opens neither
-- rule: it goes by these laws alone.
-- Assumes nothing.
use Rattle.std.specs.Prelude.{◌≡◌, refl, ℕ, zero, suc, ◌<◌, ℤ, pos, negsuc, neg_ℤ, ◌≤ℤ◌, ◌<ℤ◌}
use Rattle.std.proofs.Common.{arith}
use Rattle.integers.specs.Integers.{max_ℤ, min_ℤ, limited}
use Rattle.integers.specs.laws.Bounds.{Within}
use Rattle.integers.specs.laws.Linear.{ints}
use Rattle.integers.specs.laws.Laws.{limited_within}
use Rattle.trellis.specs.Path.{signed}
use Rattle.trellis.specs.Limits.{apriori_limit}
use Rattle.soft.specs.Soft.{hand_over, decided}

pub handed_keeps_sign : (b : ℕ) (e : ℤ) → pos 0 ≤ℤ signed b e → pos 0 ≤ℤ signed b (hand_over e)
unfolding hand_over signed
handed_keeps_sign zero e = simp ints (omega arith)
handed_keeps_sign (suc b) e = simp ints (omega arith)

pub handed_within : (e : ℤ) → Within apriori_limit (hand_over e)
unfolding hand_over
handed_within e = limited_within apriori_limit _

-- the rule computed: rounded towards zero, multiplied before it is divided, scaled before it is limited
pub handed_computes : (hand_over (negsuc 0) ≡ pos 0) × (hand_over (pos 7) ≡ pos 5) × (hand_over (pos 10000) ≡ pos 7500)
unfolding hand_over limited max_ℤ min_ℤ
handed_computes = (refl, refl, refl)

pub decided_is : (b : ℕ) (m : ℤ) → b < 2 → pos 0 <ℤ signed b m → decided m ≡ b
unfolding decided signed
decided_is zero (pos m) h l = absurd (no_less m l)
  where
    no_less : (m : ℕ) → pos 0 <ℤ neg_ℤ (pos m) → ⊥
    no_less m = simp ints (omega arith)
decided_is zero (negsuc m) h l = refl
decided_is (suc zero) (pos zero) h l = absurd (no_more l)
  where
    no_more : pos 0 <ℤ pos 0 → ⊥
    no_more = simp ints (omega arith)
decided_is (suc zero) (pos (suc m)) h l = refl
decided_is (suc zero) (negsuc m) h l = absurd (no_more m l)
  where
    no_more : (m : ℕ) → pos 0 <ℤ negsuc m → ⊥
    no_more m = simp ints (omega arith)
decided_is (suc (suc b)) m h l = absurd (omega arith)

-- as the code decides
pub decided_below : (m : ℤ) → m <ℤ pos 0 → decided m ≡ 0
unfolding decided
decided_below (pos m) h = absurd (no_less m h)
  where
    no_less : (m : ℕ) → pos m <ℤ pos 0 → ⊥
    no_less m = simp ints (omega arith)
decided_below (negsuc m) h = refl

pub decided_from : (m : ℤ) → pos 0 ≤ℤ m → decided m ≡ 1
unfolding decided
decided_from (pos m) h = refl
decided_from (negsuc m) h = absurd (no_more m h)
  where
    no_more : (m : ℕ) → pos 0 ≤ℤ negsuc m → ⊥
    no_more m = simp ints (omega arith)
