-- The metrics of a butterfly's wings by their signs, and what the steps over a section ask for and give.
-- Assumes nothing.
use Rattle.std.specs.Prelude.{◌≡◌, Bool, true, cond, List, [], ◌∷◌, ◌⊎◌, ℕ, ◌+◌, ◌*◌, ◌<◌, ◌≤◌, ℤ, pos, negsuc, neg_ℤ, ◌+ℤ◌, get_or}
use Rattle.std.proofs.Math.Option.{Option, some}
use Rattle.std.specs.Int.Signed.{lt_z}
use Rattle.integers.specs.laws.Bounds.{Within}
use Rattle.lists.specs.Lists.{found}
use Rattle.trellis.specs.Outcome.{larger}
use Rattle.trellis.specs.Path.{signed}
use Rattle.trellis.specs.laws.MaxPlus.{plus}
use Rattle.trellis.specs.laws.Over.{over}
use Rattle.trellis.specs.laws.Sweeps.{Row, advance, retreat, passing}
use Rattle.metrics.specs.Words.{held, row, row_at}
use Rattle.butterfly.specs.declared.step.Kind.{Kind}
use Rattle.butterfly.specs.laws.Wings.{Wing, advance_even, advance_odd, retreat_near, retreat_far, straight, crossed, passes_zero, passes_one}

-- ---- signs

-- -1 or 1
abbrev pub IsSign : ℤ → Type 0
IsSign z = (z ≡ negsuc 0) ⊎ (z ≡ pos 1)

-- it is the sign of bit 0
abbrev pub is_minus : ℤ → Bool
is_minus z = lt_z z (pos 0)

-- of each wing i the branch from i to 2·i: the sign of its input bit at i, that of its parity at 8 + i
pub record Signs (half : ℕ) (signs : List ℤ) : Type 0 where
  pub input : (i : ℕ) → i < half → IsSign (get_or signs i (pos 0))
  pub parity : (i : ℕ) → i < half → IsSign (get_or signs (8 + i) (pos 0))

-- two lists of signs are the same for the first wings
abbrev pub SameSigns : ℕ → List ℤ → List ℤ → Type 0
SameSigns count xs ys =
    (i : ℕ) → i < count → (get_or xs i (pos 0) ≡ get_or ys i (pos 0)) × (get_or xs (8 + i) (pos 0) ≡ get_or ys (8 + i) (pos 0))

-- the house code's, and those of 3GPP's code (feedback 13, parity 11)
abbrev pub house_signs : List ℤ
house_signs =
    negsuc 0 ∷ pos 1 ∷ pos 0 ∷ pos 0 ∷ pos 0 ∷ pos 0 ∷ pos 0 ∷ pos 0
    ∷ negsuc 0 ∷ negsuc 0 ∷ pos 0 ∷ pos 0 ∷ pos 0 ∷ pos 0 ∷ pos 0 ∷ pos 0 ∷ []

abbrev pub gpp_signs : List ℤ
gpp_signs =
    negsuc 0 ∷ negsuc 0 ∷ pos 1 ∷ pos 1 ∷ pos 0 ∷ pos 0 ∷ pos 0 ∷ pos 0
    ∷ negsuc 0 ∷ pos 1 ∷ negsuc 0 ∷ pos 1 ∷ pos 0 ∷ pos 0 ∷ pos 0 ∷ pos 0 ∷ []

-- which steps are for a table: two, four or eight wings with these signs, and whether the signs are ones that the code has as constants
pub record Known (kind : Kind) (signs : List ℤ) : Type 0 where
  pub few : kind.half ≤ 8
  pub signed_by : Signs kind.half signs
  pub house_is : kind.house ≡ true → (kind.half ≡ 2) × SameSigns 2 signs house_signs
  pub gpp_is : kind.gpp ≡ true → (kind.half ≡ 4) × SameSigns 4 signs gpp_signs
  pub else_eight : (kind.half ≡ 2 → ⊥) → (kind.half ≡ 4 → ⊥) → kind.half ≡ 8

-- ---- one section

-- the metric of a branch with these signs, where own is the a-priori with the systematic value, and other the parity's
abbrev pub gain_of : ℤ → ℤ → ℤ → ℤ → ℤ
gain_of input parity own other = signed (cond (is_minus input) 0 1) own +ℤ signed (cond (is_minus parity) 0 1) other

-- that of wing i
abbrev pub gain_at : List ℤ → ℤ → ℤ → ℕ → ℤ
gain_at signs own other i = gain_of (get_or signs i (pos 0)) (get_or signs (8 + i) (pos 0)) own other

-- the bit that leads straight on from state i: whether it is bit 0
abbrev pub straight_at : List ℤ → ℕ → Bool
straight_at signs i = is_minus (get_or signs i (pos 0))

-- every state of a section is in a wing, whose metric the signs tell
pub record Wings (target : ℕ → ℕ → ℕ) (branch-metric : ℕ → ℕ → ℤ) (half : ℕ) (signs : List ℤ) (own other : ℤ) : Type 0 where
  pub wing : (i : ℕ) → i < half → Wing target branch-metric half i (straight_at signs i) (gain_at signs own other i)

pub wings_same :
    {target : ℕ → ℕ → ℕ} {branch-metric : ℕ → ℕ → ℤ} {half : ℕ} {signs signs' : List ℤ} {own other : ℤ}
    → SameSigns half signs signs' → Wings target branch-metric half signs own other → Wings target branch-metric half signs' own other
wings_same same wings = record { wing = λ i l. rw ((same i l).0, (same i l).1) at (wings.wing i l) }

-- ---- what a wing gives, by its signs

module _
    {target : ℕ → ℕ → ℕ} {branch-metric : ℕ → ℕ → ℤ} {half : ℕ} {signs : List ℤ} {own other : ℤ} (wings : Wings target branch-metric half signs own other)
    (after : Row) (i : ℕ) (l : i < half)
  where
    abbrev h : ℤ
    h = gain_at signs own other i

    -- the row after the section, where `after` is the row before it
    pub even_after :
        advance target branch-metric (half + half) after (2 * i) ≡ larger (plus (after i) (some h)) (plus (after (i + half)) (some (neg_ℤ h)))
    even_after = advance_even target branch-metric (straight_at signs) (gain_at signs own other) wings.wing after i l

    pub odd_after :
        advance target branch-metric (half + half) after (2 * i + 1) ≡ larger (plus (after (i + half)) (some h)) (plus (after i) (some (neg_ℤ h)))
    odd_after = advance_odd target branch-metric (straight_at signs) (gain_at signs own other) wings.wing after i l

    -- the row before it
    pub near_before : retreat target branch-metric after i ≡ larger (plus (after (2 * i)) (some h)) (plus (after (2 * i + 1)) (some (neg_ℤ h)))
    near_before = retreat_near target branch-metric half i h after (straight_at signs i) (wings.wing i l)

    pub far_before :
        retreat target branch-metric after (i + half) ≡ larger (plus (after (2 * i + 1)) (some h)) (plus (after (2 * i)) (some (neg_ℤ h)))
    far_before = retreat_far target branch-metric half i h after (straight_at signs i) (wings.wing i l)

    -- the best paths through the wing
    module _ (before : Row) where
      abbrev through : ℕ → Option ℤ
      through b = larger (passing target branch-metric before after b i) (passing target branch-metric before after b (i + half))

      abbrev by_straight : Option ℤ
      by_straight = straight target branch-metric half i h after before

      abbrev by_crossed : Option ℤ
      by_crossed = crossed target branch-metric half i h after before

      pub zero_through : through 0 ≡ cond (straight_at signs i) by_straight by_crossed
      zero_through = passes_zero target branch-metric half i h after before (straight_at signs i) (wings.wing i l)

      pub one_through : through 1 ≡ cond (straight_at signs i) by_crossed by_straight
      one_through = passes_one target branch-metric half i h after before (straight_at signs i) (wings.wing i l)

-- ---- the steps

-- signs of at most eight wings, and a section's values within their limits
pub record Ready (half : ℕ) (signs : List ℤ) (own other : ℤ) : Type 0 where
  pub few : half ≤ 8
  pub signed_by : Signs half signs
  pub own_small : Within 9214 own
  pub other_small : Within 1023 other

-- every state has a metric
pub record Reached (states : ℕ) (r : Row) : Type 0 where
  pub there : (s : ℕ) → s < states → found (r s) ≡ true

-- what a step back gives: the row before the section, and the best metrics with bit 0 and with bit 1 in it
pub record Backed
    (target : ℕ → ℕ → ℕ) (branch-metric : ℕ → ℕ → ℤ) (half : ℕ) (m work : List ℤ) (at : ℕ) (metrics : List ℤ) (zeros ones : ℤ) : Type 0 where
  pub metrics_are : (s : ℕ) → s < half + half → row metrics s ≡ retreat target branch-metric (row m) s
  pub zero_is : held zeros ≡ over (half + half) (passing target branch-metric (row_at work at) (row m) 0)
  pub one_is : held ones ≡ over (half + half) (passing target branch-metric (row_at work at) (row m) 1)
