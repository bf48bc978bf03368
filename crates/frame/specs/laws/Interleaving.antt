-- What a pattern of K entries does, as a record.
-- Assumes nothing.
use Rattle.std.specs.Prelude.{◌≡◌, List, ℕ, ◌<◌, length}
use Rattle.std.proofs.Math.ListN.{get_or}
use Rattle.frame.specs.Interleaver.{place}

-- the pattern and its inverse
pub record Permutes (k : ℕ) (p : List ℕ) : Type 0 where
  pub size : length p ≡ k
  pub below : (i : ℕ) → i < k → get_or p i 0 < k
  pub place_below : (x : ℕ) → x < k → place x p < k
  pub at_place : (x : ℕ) → x < k → get_or p (place x p) 0 ≡ x
  pub place_at : (i : ℕ) → i < k → place (get_or p i 0) p ≡ i
