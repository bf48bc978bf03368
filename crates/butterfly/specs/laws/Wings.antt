-- A butterfly's wings: states i and i + half both lead to 2·i and 2·i + 1, by branches of two opposite metrics. What one section over them gives,
-- forwards, backwards and where both meet, as two numbers a wing.
-- Assumes nothing.
use Rattle.std.specs.Prelude.{◌≡◌, refl, Bool, cond, ℕ, ◌+◌, ◌*◌, ◌-◌, ◌<◌, ◌≤◌, eqb, ℤ, neg_ℤ}
use Rattle.std.proofs.Common.{sym, ap, ◌∙◌, arith, eq-eqb, ne_eqb}
use Rattle.std.proofs.Math.Path.{ap₂}
use Rattle.std.proofs.Math.Bool.{true, false}
use Rattle.std.proofs.Math.Option.{Option, none, some}
use Rattle.std.proofs.Math.Decide.{dec_lt}
use Rattle.trellis.specs.Outcome.{larger}
use Rattle.trellis.specs.laws.MaxPlus.{plus, none_larger, larger_none, larger_comm, plus_comm}
use Rattle.trellis.specs.laws.Sweeps.{Row, arriving, advance, departing, retreat, passing}
use Rattle.butterfly.specs.laws.Halves.{over_two}

module _ (target : ℕ → ℕ → ℕ) (branch-metric : ℕ → ℕ → ℤ) where
  -- wing i: one bit leads from i to 2·i and from i + half to 2·i + 1 with the metric h, bit 0 where t holds and else bit 1; the other bit leads across, with
  -- the opposite metric
  pub record Wing (half i : ℕ) (t : Bool) (h : ℤ) : Type 0 where
    pub near : target i (cond t 0 1) ≡ 2 * i
    pub near_metric : branch-metric i (cond t 0 1) ≡ h
    pub near_across : target i (cond t 1 0) ≡ 2 * i + 1
    pub near_across_metric : branch-metric i (cond t 1 0) ≡ neg_ℤ h
    pub far : target (i + half) (cond t 0 1) ≡ 2 * i + 1
    pub far_metric : branch-metric (i + half) (cond t 0 1) ≡ h
    pub far_across : target (i + half) (cond t 1 0) ≡ 2 * i
    pub far_across_metric : branch-metric (i + half) (cond t 1 0) ≡ neg_ℤ h

  -- ---- forwards

  module _ (row : Row) (r : ℕ) where
    abbrev brought : ℕ → Option ℤ
    brought s = larger (arriving target branch-metric row r s 0) (arriving target branch-metric row r s 1)

    -- what state s brings to r where it leads to 2·i with the metric g and to 2·i + 1 with the metric h
    abbrev brings : ℕ → ℕ → ℤ → ℤ → Option ℤ
    brings s i g h = larger (cond (eqb r (2 * i)) (plus (row s) (some g)) none) (cond (eqb r (2 * i + 1)) (plus (row s) (some h)) none)

    near_brings : {half i : ℕ} (t : Bool) {h : ℤ} → Wing half i t h → brought i ≡ brings i i h (neg_ℤ h)
    unfolding arriving
    near_brings true w = rw (w.near, w.near_metric, w.near_across, w.near_across_metric)
    near_brings false w = rw (w.near, w.near_metric, w.near_across, w.near_across_metric) (larger_comm _ _)

    far_brings : {half i : ℕ} (t : Bool) {h : ℤ} → Wing half i t h → brought (i + half) ≡ brings (i + half) i (neg_ℤ h) h
    unfolding arriving
    far_brings true w = rw (w.far, w.far_metric, w.far_across, w.far_across_metric) (larger_comm _ _)
    far_brings false w = rw (w.far, w.far_metric, w.far_across, w.far_across_metric)

    module _ (s i : ℕ) (g h : ℤ) where
      brings_none : (r ≡ 2 * i → ⊥) → (r ≡ 2 * i + 1 → ⊥) → brings s i g h ≡ none
      brings_none even odd = rw (ne_eqb r (2 * i) even, ne_eqb r (2 * i + 1) odd) (none_larger none)

      brings_even : r ≡ 2 * i → brings s i g h ≡ plus (row s) (some g)
      brings_even e = rw (eq-eqb r (2 * i) e, ne_eqb r (2 * i + 1) (λ q. omega arith)) (larger_none _)

      brings_odd : r ≡ 2 * i + 1 → brings s i g h ≡ plus (row s) (some h)
      brings_odd e = rw (ne_eqb r (2 * i) (λ q. omega arith), eq-eqb r (2 * i + 1) e) (none_larger _)

  -- every state is in a wing: t tells which bit leads straight on, h the metric
  module _ {half : ℕ} (t : ℕ → Bool) (h : ℕ → ℤ) (wings : (i : ℕ) → i < half → Wing half i (t i) (h i)) (row : Row) where
    -- no other wing leads to where wing i leads
    elsewhere :
        (r i : ℕ) → 2 * i ≤ r → r ≤ 2 * i + 1 → (s : ℕ) → s < half + half → (s ≡ i → ⊥) → (s ≡ i + half → ⊥) → brought row r s ≡ none
    elsewhere r i low high s l not-near not-far = elim (dec_lt s half) [
      | yes below ↦
          near_brings row r (t s) (wings s below)
          ∙ brings_none row r s s _ _ (λ e. not-near (omega arith)) (λ e. not-near (omega arith))
      | no past ↦
          let j : ℕ = s - half in
          let there : j + half ≡ s = omega arith in
          ap (brought row r) (sym there)
          ∙ far_brings row r (t j) (wings j (omega arith))
          ∙ brings_none row r (j + half) j _ _ (λ e. not-far (omega arith)) (λ e. not-far (omega arith))
    ]

    module _ (i : ℕ) (l : i < half) where
      both_bring :
          (r : ℕ) → 2 * i ≤ r → r ≤ 2 * i + 1
          → advance target branch-metric (half + half) row r
          ≡ larger (brings row r i i (h i) (neg_ℤ (h i))) (brings row r (i + half) i (neg_ℤ (h i)) (h i))
      unfolding advance
      both_bring r low high =
          over_two (brought row r) (half + half) i (i + half) (omega arith) (omega arith) (elsewhere r i low high)
          ∙ ap₂ larger (near_brings row r (t i) (wings i l)) (far_brings row r (t i) (wings i l))

      pub advance_even :
          advance target branch-metric (half + half) row (2 * i) ≡ larger (plus (row i) (some (h i))) (plus (row (i + half)) (some (neg_ℤ (h i))))
      advance_even =
          both_bring (2 * i) (omega arith) (omega arith)
          ∙ ap₂ larger (brings_even row (2 * i) i i _ _ refl) (brings_even row (2 * i) (i + half) i _ _ refl)

      pub advance_odd :
          advance target branch-metric (half + half) row (2 * i + 1) ≡ larger (plus (row (i + half)) (some (h i))) (plus (row i) (some (neg_ℤ (h i))))
      advance_odd =
          both_bring (2 * i + 1) (omega arith) (omega arith)
          ∙ ap₂ larger (brings_odd row (2 * i + 1) i i _ _ refl) (brings_odd row (2 * i + 1) (i + half) i _ _ refl)
          ∙ larger_comm _ _

  -- ---- backwards, and where both meet

  module _ (half i : ℕ) (h : ℤ) (row : Row) where
    pub retreat_near :
        (t : Bool) → Wing half i t h → retreat target branch-metric row i ≡ larger (plus (row (2 * i)) (some h)) (plus (row (2 * i + 1)) (some (neg_ℤ h)))
    unfolding retreat departing
    retreat_near true w = rw (w.near, w.near_metric, w.near_across, w.near_across_metric) (ap₂ larger (plus_comm _ _) (plus_comm _ _))
    retreat_near false w =
        rw (w.near, w.near_metric, w.near_across, w.near_across_metric) (larger_comm _ _ ∙ ap₂ larger (plus_comm _ _) (plus_comm _ _))

    pub retreat_far :
        (t : Bool) → Wing half i t h
        → retreat target branch-metric row (i + half) ≡ larger (plus (row (2 * i + 1)) (some h)) (plus (row (2 * i)) (some (neg_ℤ h)))
    unfolding retreat departing
    retreat_far true w = rw (w.far, w.far_metric, w.far_across, w.far_across_metric) (ap₂ larger (plus_comm _ _) (plus_comm _ _))
    retreat_far false w =
        rw (w.far, w.far_metric, w.far_across, w.far_across_metric) (larger_comm _ _ ∙ ap₂ larger (plus_comm _ _) (plus_comm _ _))

    module _ (before : Row) where
      -- the best path by the bit that leads straight on, and by the other
      abbrev pub straight : Option ℤ
      straight = larger (plus (before i) (plus (row (2 * i)) (some h))) (plus (before (i + half)) (plus (row (2 * i + 1)) (some h)))

      abbrev pub crossed : Option ℤ
      crossed =
          larger (plus (before i) (plus (row (2 * i + 1)) (some (neg_ℤ h)))) (plus (before (i + half)) (plus (row (2 * i)) (some (neg_ℤ h))))

      abbrev passes : ℕ → Option ℤ
      passes b = larger (passing target branch-metric before row b i) (passing target branch-metric before row b (i + half))

      passes_straight : (t : Bool) → Wing half i t h → passes (cond t 0 1) ≡ straight
      unfolding passing departing
      passes_straight t w =
          rw (w.near, w.near_metric, w.far, w.far_metric)
          (ap₂ (λ x y. larger (plus (before i) x) (plus (before (i + half)) y)) (plus_comm _ _) (plus_comm _ _))

      passes_crossed : (t : Bool) → Wing half i t h → passes (cond t 1 0) ≡ crossed
      unfolding passing departing
      passes_crossed t w =
          rw (w.near_across, w.near_across_metric, w.far_across, w.far_across_metric)
          (ap₂ (λ x y. larger (plus (before i) x) (plus (before (i + half)) y)) (plus_comm _ _) (plus_comm _ _))

      pub passes_zero : (t : Bool) → Wing half i t h → passes 0 ≡ cond t straight crossed
      passes_zero true w = passes_straight true w
      passes_zero false w = passes_crossed false w

      pub passes_one : (t : Bool) → Wing half i t h → passes 1 ≡ cond t crossed straight
      passes_one true w = passes_crossed true w
      passes_one false w = passes_straight false w
