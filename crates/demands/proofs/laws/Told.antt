-- What tests tell of paths: whether there is one, and whether a class is empty.
-- Assumes nothing.
use Rattle.std.specs.Prelude.{◌≡◌, ◌↔◌, Bool, true, false, not, ℕ}
use Rattle.std.proofs.Math.Path.{refl}
use Rattle.std.proofs.Common.{sym}
use Rattle.std.proofs.lemmas.Bool.{false≢true}
use mathlib.Core.List.{List, [], ◌∷◌, Memᴰ}
use Rattle.lists.specs.Lists.{is_empty}
use Rattle.lists.specs.laws.Keep.{is_empty_exactly, empty_exactly}
use Rattle.trellis.specs.declared.End.{End}
use Rattle.trellis.specs.Table.{Table}
use Rattle.trellis.specs.Path.{TrellisPath, paths, class}
use Rattle.trellis.specs.Outcome.{pathless}
use Rattle.trellis.specs.Best.{IsPath}
use Rattle.trellis.proofs.laws.Listing.{paths_are, class_is_empty}
use Rattle.demands.specs.Meaning.{SomePath, IsEmptyClass}

-- a test that tells whether there is a P
pub record Tells (b : Bool) (P : Type 0) : Type 0 where
  pub yes : b ≡ true → P
  pub no : b ≡ false → P → ⊥

module _ (t : Table) (end : End) (n : ℕ) where
  pub path_told : Tells (not (pathless t end n)) (SomePath t end n)
  unfolding pathless is_empty
  path_told = go (paths t end n) (paths_are t end n)
    where
      go : (ps : List TrellisPath) → ((p : TrellisPath) → Memᴰ p ps ↔ IsPath t end n p) → Tells (not (is_empty ps)) (SomePath t end n)
      go [] h = record { yes = λ e. absurd (false≢true e); no = λ e p. (empty_exactly []).0 refl p.path ((h p.path).1 p.is_path) }
      go (p ∷ ps) h = record { yes = λ e. record { path = p; is_path = (h p).0 (Memᴰ.head refl) }; no = λ e. absurd (false≢true (sym e)) }

  pub class_empty : (k b : ℕ) → (is_empty (class t end n k b) ≡ true) ↔ IsEmptyClass t end n k b
  class_empty k b =
      let listing = is_empty_exactly (class t end n k b) in
      let over-paths = class_is_empty t end n k b in
      (λ e. record { empty = over-paths.0 (listing.0 e) }, λ h. listing.1 (over-paths.1 h.empty))
