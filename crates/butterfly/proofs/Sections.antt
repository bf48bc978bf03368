-- One section of a pass over a butterfly: its values as they stand in their lists, and the rows on either side of it.
-- Assumes nothing.
use mathlib.Core.Path.{◌≡◌, sym, ap, ap₂, ◌∙◌}
use mathlib.Core.Bool.{cond}
use mathlib.Core.Option.{none, some}
use Prim.Native.Nat.{ℕ, suc, ◌+◌, ◌*◌, ◌-◌, ◌^◌, ◌<◌, ◌≤◌}
use native.Mathlib.Nat.{add-zero, mul-suc, mul_comm, mul-le-mul, mul-le-mul_left}
use native.Mathlib.Numerals.{add-one}
use native.Mathlib.Omega.{arith}
use lib.Dec.{eqb}
use lib.IntN.{ℤ, pos, ◌+ℤ◌}
use lib.Signed.{mag}
use mir.Facts.{to_z-of_z}
use mir.Syntax.{w16, w32}
use mir.Val.{SFits, hbits, to_z, of_z}
use lib.ListN.{length, get_or}
use mathlib.Core.List.{List}
use Rattle.integers.specs.laws.Bounds.{Within}
use Rattle.integers.specs.laws.Laws.{within_more, within_sum}
use Rattle.integers.specs.laws.Linear.{ints, fits_of}
use Rattle.trellis.specs.Table.{Table, next_state}
use Rattle.trellis.specs.Path.{Values, apriori_at, channel_at, branch_metric}
use Rattle.trellis.specs.Outcome.{larger}
use Rattle.trellis.specs.laws.MaxPlus.{plus}
use Rattle.trellis.specs.laws.Over.{over, over_ext}
use Rattle.trellis.specs.laws.Sweeps.{Row, Closed, boundary, arriving, advance, departing, retreat, passing}
use Rattle.trellis.specs.laws.Sweeps.{forward, forward_start, forward_step, forward_step_lem, backward, backward_end, backward_step, backward_step_lem, through, meet}
use Rattle.metrics.specs.Words.{row, row_at}
use Rattle.siso.specs.laws.Held.{Saved}
use Rattle.siso.specs.laws.Pass.{Forward}
use Rattle.siso.specs.laws.Passed.{table_limits, few_sections, values_bounded}
use Rattle.siso.specs.laws.Steps.{Agree}
use Rattle.siso.proofs.ForwardRows.{rows_more}
use Rattle.butterfly.specs.laws.Flights.{Winged}
use Rattle.butterfly.specs.laws.Tables.{own_at, other_at}

-- ---- the values

pub short_fits : (z : ℤ) → Within 8191 z → SFits w16 z
short_fits z = simp ints (omega arith)

module _ {t : Table} {n : ℕ} {v : Values} {half : ℕ} {signs : List ℤ} (w : Winged t n v half signs) (k : ℕ) where
  -- as they are read
  pub own_read : get_or v.apriori k (pos 0) +ℤ get_or v.channel (2 * k) (pos 0) ≡ own_at t v k
  unfolding apriori_at channel_at
  own_read = rw (w.two_outputs, add-zero)

  pub other_read : get_or v.channel (2 * k + 1) (pos 0) ≡ other_at t v k
  unfolding channel_at
  other_read = rw w.two_outputs

  -- within their limits
  pub read_small : Within 8191 (get_or v.apriori k (pos 0)) × Within 1023 (get_or v.channel (2 * k) (pos 0))
  unfolding apriori_at channel_at
  read_small = ((values_bounded w.pass).apriori k, rw (w.two_outputs, add-zero) at ((values_bounded w.pass).channel k 0))

  pub own_small : Within 9214 (own_at t v k)
  own_small = within_sum ((values_bounded w.pass).apriori k) ((values_bounded w.pass).channel k 0)

  pub other_small : Within 1023 (other_at t v k)
  other_small = (values_bounded w.pass).channel k 1

  -- as they are worked out
  module _ {r : ℤ} (r-fits : mag r < 2 ^ hbits w32) where
    pub own_is :
        r ≡ to_z w16 (of_z w16 (get_or v.apriori k (pos 0))) +ℤ to_z w16 (of_z w16 (get_or v.channel (2 * k) (pos 0)))
        → to_z w32 (of_z w32 r) ≡ own_at t v k
    own_is is =
        let a-fits : SFits w16 (get_or v.apriori k (pos 0)) = short_fits _ read_small.0 in
        let y-fits : SFits w16 (get_or v.channel (2 * k) (pos 0)) = short_fits _ (within_more (omega arith) read_small.1) in
        to_z-of_z {w = w32} (fits_of r-fits) ∙ rw (to_z-of_z a-fits, to_z-of_z y-fits) at is ∙ own_read

    pub other_is : r ≡ to_z w16 (of_z w16 (get_or v.channel (2 * k + 1) (pos 0))) → to_z w32 (of_z w32 r) ≡ other_at t v k
    other_is is =
        let y-small : Within 1023 (get_or v.channel (2 * k + 1) (pos 0)) = rw other_read other_small in
        let y-fits : SFits w16 (get_or v.channel (2 * k + 1) (pos 0)) = short_fits _ (within_more (omega arith) y-small) in
        to_z-of_z {w = w32} (fits_of r-fits) ∙ rw (to_z-of_z y-fits) at is ∙ other_read

  -- and within their lists, which are not long; so is the section's row in the working list
  pub placed : k < n → (2 * k + 1 < length v.channel) × (k < length v.apriori) × (length v.channel ≤ 8192) × (half ≤ 8)
  placed here =
      let long = w.pass.channel_long in
      let few = few_sections w.pass in
      let states = (table_limits w.pass).most_states in
      let halves = w.halves in
      let channel : length v.channel ≡ 2 * n = long ∙ ap (λ m. m * n) w.two_outputs in
      (omega arith, omega (arith, w.pass.apriori_long), omega arith, omega arith)

-- a row of S entries ends before the next begins
pub row_place : (S k n : ℕ) → S ≤ 16 → n ≤ 4096 → k < n → (S * k + S ≤ S * n) × (S * n ≤ 65536)
row_place S k n few short h = (rw (← mul-suc S k) (mul-le-mul_left S h), mul-le-mul few short)

-- the rows before a section stand within the working list
pub rows_fit : (S e n : ℕ) → e ≤ n → S * e ≤ (n + 1) * S
rows_fit S e n h = rw (mul_comm (n + 1) S) (mul-le-mul_left S (omega arith))

-- ---- the rows

-- the first
pub row_begun :
    (t : Table) (v : Values) (m : List ℤ) (a : ℕ) {S : ℕ} → S ≤ 16 → ((s : ℕ) → s < 16 → row m s ≡ boundary a s)
    → Agree S (row m) (forward t v (boundary a) 0)
row_begun t v m a few is s l = is s (omega arith) ∙ sym (ap (λ f. f s) (forward_start t v (boundary a)))

-- the last
pub row_ended :
    (t : Table) (v : Values) (n : ℕ) {S : ℕ} (last : Row) {x : Row} → Agree S x last → Agree S x (backward t v last n (n - n))
row_ended t v n last same s l = same s l ∙ sym (ap (λ f. f s) (backward_end t v last n))

-- a row more in the working list, where the states are counted otherwise
saved_as : {m work new : List ℤ} {S S' : ℕ} (k : ℕ) → S ≡ S' → Saved m S' (S' * k) work new → Saved m S (S * k) work new
saved_as k e saved = rw e saved

pub row_more :
    {t : Table} {v : Values} {a S k : ℕ} (m : List ℤ) {work new : List ℤ} → t.states ≡ S → Agree S (row m) (forward t v (boundary a) k)
    → Saved m S (S * k) work new → Forward t v a k work → Forward t v a (k + 1) new
row_more {k = k} m all same saved = rows_more {m = m} (λ s l. same s (omega (arith, all))) (saved_as k all saved)

pub rows_fewer : {t : Table} {v : Values} {a n k : ℕ} {work : List ℤ} → k ≤ n → Forward t v a n work → Forward t v a k work
rows_fewer h rows = record { rows = λ j s l state. rows.rows j s (omega arith) state }

-- the row of section k as it stands there
pub row_of :
    {t : Table} {n : ℕ} {v : Values} {half a to : ℕ} {signs work : List ℤ} → Winged t n v half signs → Forward t v a to work → (k : ℕ) → k < to
    → Agree (half + half) (row_at work ((half + half) * k)) (forward t v (boundary a) k)
row_of {work = work} w rows k h s l =
    ap (λ S. row_at work (S * k) s) (sym w.halves) ∙ rows.rows k s h (omega (arith, w.halves))

module _ (t : Table) (v : Values) (k : ℕ) {S : ℕ} (all : t.states ≡ S) where
  pub next_forward :
      (first : Row) {x : Row} → Agree S x (forward t v first k) → (s : ℕ)
      → advance (next_state t) (branch_metric t v k) S x s ≡ forward t v first (k + 1) s
  unfolding advance arriving forward_step
  next_forward first {x} same s =
      over_ext S
      (λ r l. ap (λ m. larger
      (cond (eqb s (next_state t r 0)) (plus m (some (branch_metric t v k r 0))) none)
      (cond (eqb s (next_state t r 1)) (plus m (some (branch_metric t v k r 1))) none))
      (same r l))
      ∙ ap (λ states. advance (next_state t) (branch_metric t v k) states (forward t v first k) s) (sym all)
      ∙ sym (ap (λ f. f s) (forward_step_lem t v first k))
      ∙ ap (λ j. forward t v first j s) (sym (add-one k))

  module _ (closed : Closed t) (last : Row) (n : ℕ) (here : k < n) {after : Row} (same : Agree S after (backward t v last (k + 1) (n - (k + 1)))) where
    below : (s b : ℕ) → s < S → b < 2 → next_state t s b < S
    below s b l bit = omega (arith, all, closed.stays s b (omega (arith, all)) bit)

    departs : (s b : ℕ) → s < S → b < 2 → departing (next_state t) (branch_metric t v k) after s b ≡ departing (next_state t) (branch_metric t v k) (backward t v last (suc k) (n - suc k)) s b
    unfolding departing
    departs s b l bit = ap (plus (some (branch_metric t v k s b))) (rw add-one at (same (next_state t s b) (below s b l bit)))

    pub next_backward : Agree S (retreat (next_state t) (branch_metric t v k) after) (backward t v last k (n - k))
    unfolding retreat backward_step
    next_backward s l =
        ap₂ larger (departs s 0 l (omega arith)) (departs s 1 l (omega arith)) ∙ sym (ap (λ f. f s) (backward_step_lem t v last n k here))

    pub next_meet :
        (first : Row) {before : Row} → Agree S before (forward t v first k) → (b : ℕ) → b < 2
        → over S (passing (next_state t) (branch_metric t v k) before after b) ≡ meet t v first last n k b
    unfolding passing meet through
    next_meet first same-before b bit =
        over_ext S (λ s l. ap₂ plus (same-before s l) (departs s b l bit))
        ∙ ap (λ states. over states (λ s. plus (forward t v first k s) (departing (next_state t) (branch_metric t v k) (backward t v last (suc k) (n - suc k)) s b))) (sym all)
