-- A position told from the words of its two best metrics, which stand in the lists for margins and extrinsics until then.
-- Assumes nothing.
use Rattle.std.specs.Prelude.{◌≡◌, List, ◌≢◌, ℕ, ℤ, pos, get_or}
use Rattle.std.proofs.Math.Option.{Option}
use Rattle.trellis.specs.declared.Outcome.{Outcome}
use Rattle.trellis.specs.Outcome.{outcome_of, position_of}
use Rattle.metrics.specs.Words.{held}
use Rattle.siso.specs.laws.Told.{IsAt}

-- the outcome that the words at k tell
abbrev pub bests_at : ℕ → List ℤ → List ℤ → Option Outcome
bests_at k gs es = outcome_of (held (get_or gs k (pos 0))) (held (get_or es k (pos 0)))

-- the lists after position k is told, ms, gs and es before it; own is the intrinsic part of its margin
pub record ToldAt (k : ℕ) (own : ℤ) (ms : List ℕ) (gs es : List ℤ) (ms' : List ℕ) (gs' es' : List ℤ) : Type 0 where
  pub is : IsAt (position_of own (bests_at k gs es)) k ms' gs' es'
  pub marks_others : (j : ℕ) → j ≢ k → get_or ms' j 0 ≡ get_or ms j 0
  pub margins_others : (j : ℕ) → j ≢ k → get_or gs' j (pos 0) ≡ get_or gs j (pos 0)
  pub extrinsics_others : (j : ℕ) → j ≢ k → get_or es' j (pos 0) ≡ get_or es j (pos 0)
