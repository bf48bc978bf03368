-- A turn of a step over a section: what is known of the two branches of a state, and of the words that locals hold.
-- Assumes nothing.
use Rattle.std.specs.Prelude.{◌≡◌, List, ℕ, ◌+◌, ◌*◌, ◌^◌, ◌≤◌, ◌<◌, ℤ, pos, ◌+ℤ◌, get_or}
use Rattle.std.proofs.Common.{ap, ◌∙◌, arith, SFits, to_z, of_z, to_z-of_z, add-zero}
use Rattle.std.proofs.Math.Option.{Option, some}
use Rattle.std.specs.Int.{w32}
use Rattle.std.specs.Int.Signed.{mag}
use mir.Val.{hbits}
use Rattle.integers.specs.laws.Bounds.{Within}
use Rattle.integers.specs.laws.Laws.{within_more}
use Rattle.integers.specs.laws.Linear.{fits_of}
use Rattle.trellis.specs.Path.{signed}
use Rattle.trellis.specs.Outcome.{larger}
use Rattle.trellis.specs.laws.MaxPlus.{plus, plus_comm}
use Rattle.trellis.specs.laws.Sizes.{Small}
use Rattle.metrics.specs.Words.{held, row}
use Rattle.siso.specs.laws.Held.{branch_metric_of, Branches}
use Rattle.siso.proofs.Branch.{branch_read, branch_small}
use Rattle.siso.proofs.Rows.{kept}

-- a word as a local holds it
abbrev pub local : ℤ → ℤ
local z = to_z w32 (of_z w32 z)

-- ---- the branches of state s; the code reads at 2·s what stands at 2·s + 0

module _ {states : ℕ} {next words : List ℕ} {g : List ℤ} {a : ℤ} (t : Branches states next words g a) {s : ℕ} (state : s < states) where
  pub leads0 : get_or next (2 * s) 0 < states
  leads0 = (rw add-zero at (branch_read t s 0 state (omega arith))).leads

  pub leads1 : get_or next (2 * s + 1) 0 < states
  leads1 = (branch_read t s 1 state (omega arith)).leads

  pub part0 : Within 4092 (get_or g (get_or words (2 * s) 0) (pos 0))
  part0 = (rw add-zero at (branch_read t s 0 state (omega arith))).small

  pub part1 : Within 4092 (get_or g (get_or words (2 * s + 1) 0) (pos 0))
  part1 = (branch_read t s 1 state (omega arith)).small

  -- their metrics
  module _ (a-fits : SFits w32 a) {r : ℤ} (r-fits : mag r < 2 ^ hbits w32) where
    module _ (is : r ≡ signed 0 (local a) +ℤ get_or g (get_or words (2 * s) 0) (pos 0)) where
      pub metric0 : local r ≡ branch_metric_of words g (local a) s 0
      metric0 = rw add-zero (to_z-of_z {w = w32} (fits_of r-fits) ∙ is)

      pub small0 : {m : ℕ} → 12283 ≤ m → Within m (local r)
      small0 h = rw (metric0, to_z-of_z a-fits) (within_more h (branch_small t s 0 state (omega arith)))

    module _ (is : r ≡ signed 1 (local a) +ℤ get_or g (get_or words (2 * s + 1) 0) (pos 0)) where
      pub metric1 : local r ≡ branch_metric_of words g (local a) s 1
      metric1 = to_z-of_z {w = w32} (fits_of r-fits) ∙ is

      pub small1 : {m : ℕ} → 12283 ≤ m → Within m (local r)
      small1 h = rw (metric1, to_z-of_z a-fits) (within_more h (branch_small t s 1 state (omega arith)))

-- ---- words

-- a small metric that a local holds
pub local_small : {m : ℕ} {x : ℤ} → SFits w32 x → Small m (held x) → Small m (held (local x))
local_small f h = rw (to_z-of_z f) h

module _ {x : ℤ} (x-fits : SFits w32 x) (y : ℤ) (y-fits : mag y < 2 ^ hbits w32) where
  -- what a branch of metric b brings on from x
  pub brings : (g : ℤ) {b : ℤ} → local g ≡ b → held y ≡ plus (held (local x)) (some (local g)) → held (local y) ≡ plus (held x) (some b)
  brings g e h = kept y y-fits (rw (to_z-of_z x-fits, e) at h)

  -- the larger of x and of another word
  pub arrives : (z : ℤ) {o : Option ℤ} → held (local z) ≡ o → held y ≡ larger (held (local x)) (held (local z)) → held (local y) ≡ larger (held x) o
  arrives z e h = kept y y-fits (rw (to_z-of_z x-fits, e) at h)

-- the metric that a branch of metric b leads to, with it: at place i of the row m, which is also called j
module _ (m : List ℤ) {i j : ℕ} (same : i ≡ j) (m-fits : SFits w32 (get_or m i (pos 0))) (g : ℤ) {b : ℤ} (g-is : local g ≡ b) (y : ℤ) (y-fits : mag y < 2 ^ hbits w32) where
  pub departs : held y ≡ plus (held (local (get_or m i (pos 0)))) (some (local g)) → held (local y) ≡ plus (some b) (row m j)
  departs h = brings m-fits y y-fits g g-is h ∙ plus_comm _ _ ∙ ap (λ k. plus (some b) (row m k)) same

  -- and with what came before the branch
  pub passes :
      {f : ℤ} → SFits w32 f → held y ≡ plus (held (local f)) (plus (some (local g)) (held (local (get_or m i (pos 0)))))
      → held (local y) ≡ plus (held f) (plus (some b) (row m j))
  passes {f} f-fits h = kept y y-fits (rw (to_z-of_z f-fits, g-is, to_z-of_z m-fits) at h) ∙ ap (λ k. plus (held f) (plus (some b) (row m k))) same
