-- The working list as a row of words is stored in it: none stored, and one word more.
-- Assumes nothing.
use mathlib.Core.Path.{◌≡◌, refl, ◌∙◌}
use mathlib.Core.List.{List}
use Prim.Native.Nat.{ℕ, ◌+◌, ◌<◌}
use native.Mathlib.Omega.{arith}
use lib.IntN.{ℤ, pos}
use lib.ListN.{length, get_or, set}
use lib.Seq.{get_or-set_same, get_or-set_other}
use borrow.Author.Count.{below_more}
use Rattle.siso.specs.laws.Held.{Saved}

module _ {m : List ℤ} {at : ℕ} {work : List ℤ} where
  pub saved_none : Saved m 0 at work work
  saved_none = record { here = λ s h. absurd (omega arith); before = λ i h. refl; past = λ i h. refl }

  pub saved_more :
      {s : ℕ} {new : List ℤ} → at + s < length new → Saved m s at work new → Saved m (s + 1) at work (set new (at + s) (get_or m s (pos 0)))
  saved_more {s} {new} inside saved = record {
    here = below_more _ s (λ i h. other (at + i) (λ e. omega arith) ∙ saved.here i h) (get_or-set_same new (at + s) _ (pos 0) inside);
    before = λ i h. other i (λ e. omega arith) ∙ saved.before i h;
    past = λ i h. other i (λ e. omega arith) ∙ saved.past i (omega arith);
  }
    where
      other : (i : ℕ) → (i ≡ at + s → ⊥) → get_or (set new (at + s) (get_or m s (pos 0))) i (pos 0) ≡ get_or new i (pos 0)
      other i = get_or-set_other new (at + s) i _ (pos 0)
