-- A row in which every state of a butterfly is reached: so is it in the rows after it, and on the way back in the rows before it.
-- Assumes nothing.
use mathlib.Core.Path.{◌≡◌, refl, sym, ap, ◌∙◌}
use mathlib.Core.Bool.{true, false≢true}
use mathlib.Core.List.{List}
use mathlib.Core.Option.{Option, none, some}
use Prim.Native.Nat.{ℕ, zero, suc, ◌+◌, ◌*◌, ◌-◌, ◌<◌, ◌≤◌}
use native.Mathlib.Decide.{ℕ_discrete}
use native.Mathlib.Nat.{add-zero}
use native.Mathlib.Omega.{arith}
use lib.IntN.{ℤ}
use Rattle.lists.specs.Lists.{found}
use Rattle.trellis.specs.Table.{Table}
use Rattle.trellis.specs.Path.{Values}
use Rattle.trellis.specs.Outcome.{larger}
use Rattle.trellis.specs.laws.MaxPlus.{plus}
use Rattle.trellis.specs.laws.Sweeps.{Row, advance, retreat, forward, backward}
use Rattle.siso.specs.laws.Passed.{table_closed}
use Rattle.siso.specs.laws.Steps.{Agree}
use Rattle.butterfly.specs.laws.Flights.{Winged}
use Rattle.butterfly.specs.laws.Metrics.{Wings, Reached, even_after, odd_after, near_before, far_before}
use Rattle.butterfly.proofs.Entries.{both_halves}
use Rattle.butterfly.proofs.Sections.{next_forward, next_backward}

-- ---- one section

-- the larger of two is there where one is
still_there : (x y : Option ℤ) (g : ℤ) → found x ≡ true → found (larger (plus x (some g)) y) ≡ true
unfolding found larger plus
still_there none y g e = absurd (false≢true e)
still_there (some a) none g e = refl
still_there (some a) (some b) g e = refl

-- what holds of the even and of the odd
by_twos : (P : ℕ → Type 0) (half : ℕ) → ((i : ℕ) → i < half → P (2 * i)) → ((i : ℕ) → i < half → P (2 * i + 1)) → (s : ℕ) → s < half + half → P s
by_twos P zero even odd s l = absurd (omega arith)
by_twos P (suc half) even odd s l = elim (ℕ_discrete s (2 * half)) [
  | yes e ↦ rw e (even half (omega arith))
  | no d ↦ elim (ℕ_discrete s (2 * half + 1)) [
    | yes e ↦ rw e (odd half (omega arith))
    | no f ↦ by_twos P half (λ i h. even i (omega arith)) (λ i h. odd i (omega arith)) s (omega arith)
  ]
]

module _
    {target : ℕ → ℕ → ℕ} {branch-metric : ℕ → ℕ → ℤ} {half : ℕ} {signs : List ℤ} {own other : ℤ} (wings : Wings target branch-metric half signs own other)
    {r : Row} (full : Reached (half + half) r)
  where
    reached_after : Reached (half + half) (advance target branch-metric (half + half) r)
    reached_after = record {
      there =
          by_twos _ half
          (λ i l. ap found (even_after wings r i l) ∙ still_there _ _ _ (full.there i (omega arith)))
          (λ i l. ap found (odd_after wings r i l) ∙ still_there _ _ _ (full.there (i + half) (omega arith)));
    }

    reached_before : Reached (half + half) (retreat target branch-metric r)
    reached_before = record {
      there =
          both_halves _
          (λ i l. ap found (near_before wings r i l) ∙ still_there _ _ _ (full.there (2 * i) (omega arith)))
          (λ i l. ap found (far_before wings r i l) ∙ still_there _ _ _ (full.there (2 * i + 1) (omega arith)));
    }

pub reached_same : {S : ℕ} {x y : Row} → Agree S x y → Reached S y → Reached S x
reached_same same full = record { there = λ s l. ap found (same s l) ∙ full.there s l }

-- ---- from section to section

module _ {t : Table} {n : ℕ} {v : Values} {half : ℕ} {signs : List ℤ} (w : Winged t n v half signs) where
  reached_later : (first : Row) (from j : ℕ) → Reached (half + half) (forward t v first from) → Reached (half + half) (forward t v first (from + j))
  reached_later first from zero full = rw (add-zero from) full
  reached_later first from (suc j) full =
      let e : from + suc j ≡ from + j + 1 = omega arith in
      rw e
      (reached_same (λ s i. sym (next_forward t v (from + j) w.halves first (λ r h. refl) s))
      (reached_after (w.wings (from + j)) (reached_later first from j full)))

  pub reached_forward :
      (first : Row) (from k : ℕ) → from ≤ k → Reached (half + half) (forward t v first from) → Reached (half + half) (forward t v first k)
  reached_forward first from k low full = let e : from + (k - from) ≡ k = omega arith in rw e at (reached_later first from (k - from) full)

  reached_earlier :
      (last : Row) (to j : ℕ) → j ≤ to → to ≤ n → Reached (half + half) (backward t v last to (n - to))
      → Reached (half + half) (backward t v last (to - j) (n - (to - j)))
  reached_earlier last to zero low within full = let e : to - 0 ≡ to = omega arith in rw e full
  reached_earlier last to (suc j) low within full =
      let k : ℕ = to - suc j in
      let e : k + 1 ≡ to - j = omega arith in
      reached_same
      (λ s i. sym (next_backward t v k w.halves (table_closed w.pass) last n (omega arith) (λ r h. ap (λ m. backward t v last m (n - m) r) (sym e)) s i))
      (reached_before (w.wings k) (reached_earlier last to j (omega arith) within full))

  pub reached_backward :
      (last : Row) (to k : ℕ) → k ≤ to → to ≤ n → Reached (half + half) (backward t v last to (n - to))
      → Reached (half + half) (backward t v last k (n - k))
  reached_backward last to k low within full =
      let e : to - (to - k) ≡ k = omega arith in rw e at (reached_earlier last to (to - k) (omega arith) within full)
