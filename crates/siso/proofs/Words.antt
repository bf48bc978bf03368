-- Laws of a word's metric from at most four channel values: a value that is not there is 0, and counts for nothing; two values, and the list of the metrics
-- of their four words.
-- Assumes nothing.
use mathlib.Core.Path.{◌≡◌, refl}
use mathlib.Core.List.{List, [], ◌∷◌}
use Prim.Native.Nat.{ℕ, zero, suc, ◌+◌, ◌<◌, ◌≤◌}
use native.Mathlib.Decide.{dec_lt}
use native.Mathlib.Omega.{arith}
use lib.IntN.{ℤ, pos, ◌+ℤ◌, +ℤ_idr}
use native.Mathlib.Numerals.{add-one}
use lib.ListN.{length, get_or, get_or-eq_default}
use Rattle.integers.specs.laws.Bounds.{Within}
use Rattle.integers.specs.laws.Laws.{within_zero, within_more}
use Rattle.trellis.specs.Table.{output}
use Rattle.trellis.specs.Path.{signed, word_metric}
use Rattle.trellis.proofs.laws.Signs.{signed_zero}
use Rattle.trellis.proofs.laws.Sizes.{word_within}

pub value_within :
    (m : ℕ) (ys : List ℤ) → ((l : ℕ) → l < length ys → Within m (get_or ys l (pos 0))) → (l : ℕ) → Within m (get_or ys l (pos 0))
value_within m ys h l = elim (dec_lt l (length ys)) [
  | yes i ↦ h l i
  | no i ↦ rw (get_or-eq_default ys (pos 0) {n = l} (omega arith)) (within_zero m)
]

-- the four values of a section, 0 for those that are not there
abbrev pub four_of : List ℤ → List ℤ
four_of ys = get_or ys 0 (pos 0) ∷ get_or ys 1 (pos 0) ∷ get_or ys 2 (pos 0) ∷ get_or ys 3 (pos 0) ∷ []

pub four :
    (ys : List ℤ) (w : ℕ) → length ys ≤ 4
    → word_metric (λ l. get_or (four_of ys) l (pos 0)) w 4 ≡ word_metric (λ l. get_or ys l (pos 0)) w (length ys)
unfolding word_metric
four [] w h = simp (signed_zero, +ℤ_idr)
four (a ∷ []) w h = simp (signed_zero, +ℤ_idr)
four (a ∷ b ∷ []) w h = simp (signed_zero, +ℤ_idr)
four (a ∷ b ∷ c ∷ []) w h = simp (signed_zero, +ℤ_idr)
four (a ∷ b ∷ c ∷ d ∷ []) w h = refl
four (a ∷ b ∷ c ∷ d ∷ e ∷ ys) w h = absurd (omega arith)

-- and of two
pub two : (ys : List ℤ) (w : ℕ) → length ys ≡ 2
    → word_metric (λ l. get_or (get_or ys 0 (pos 0) ∷ get_or ys 1 (pos 0) ∷ pos 0 ∷ pos 0 ∷ []) l (pos 0)) w 4 ≡ word_metric (λ l. get_or ys l (pos 0)) w (length ys)
two [] w h = absurd (omega arith)
two (a ∷ []) w h = absurd (omega arith)
two (a ∷ b ∷ []) w h = four (a ∷ b ∷ []) w (omega arith)
two (a ∷ b ∷ c ∷ ys) w h = absurd (omega arith)

pub four_within :
    {m : ℕ} {a b c d : ℤ} → Within m a → Within m b → Within m c → Within m d → (l : ℕ) → Within m (get_or (a ∷ b ∷ c ∷ d ∷ []) l (pos 0))
four_within h i j k zero = h
four_within h i j k (suc zero) = i
four_within h i j k (suc (suc zero)) = j
four_within h i j k (suc (suc (suc zero))) = k
four_within {m} h i j k (suc (suc (suc (suc l)))) = within_zero m

-- ---- a word's metric, output by output

module _ (ys : List ℤ) (w : ℕ) where
  pub word_start : word_metric (λ i. get_or ys i (pos 0)) w 0 ≡ pos 0
  unfolding word_metric
  word_start = refl

  pub word_more :
      (l : ℕ)
      → word_metric (λ i. get_or ys i (pos 0)) w (l + 1) ≡ word_metric (λ i. get_or ys i (pos 0)) w l +ℤ signed (output w l) (get_or ys l (pos 0))
  unfolding word_metric
  word_more l = rw add-one refl

  pub part_within :
      (l : ℕ) → ((i : ℕ) → Within 1023 (get_or ys i (pos 0))) → l < 4 → Within 3069 (word_metric (λ i. get_or ys i (pos 0)) w l)
  part_within l h k = within_more (omega arith) (word_within w l (λ i _. h i))
