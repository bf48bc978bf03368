-- What the code does to rows of metrics, and to any list: a word that a local held, an entry written, and a list made entry by entry.
-- Assumes nothing.
use mathlib.Core.Path.{◌≡◌, refl, sym, ap, ◌∙◌}
use mathlib.Core.Bool.{Bool, true, false, cond}
use mathlib.Core.List.{List}
use mathlib.Core.Option.{Option, none}
use Prim.Native.Nat.{ℕ, ◌+◌, ◌^◌, ◌<◌}
use native.Mathlib.Omega.{arith}
use lib.Dec.{eqb}
use lib.IntN.{ℤ, pos}
use lib.Signed.{mag}
use lib.ListN.{length, get_or, set}
use mir.Facts.{to_z-of_z}
use mir.Syntax.{w32}
use mir.Val.{hbits, to_z, of_z}
use lib.Seq.{get_or-set_same, get_or-set_other}
use borrow.Author.Count.{below_more}
use borrow.Author.Tests.{eqb-true, eqb-false}
use Rattle.integers.specs.laws.Linear.{fits_of}
use Rattle.trellis.specs.laws.MaxPlus.{larger_none}
use Rattle.trellis.specs.Outcome.{larger}
use Rattle.metrics.specs.Words.{held, row}

-- a word that comes back from a local stands for what it stood for
pub kept : (z : ℤ) {x : Option ℤ} → mag z < 2 ^ hbits w32 → held z ≡ x → held (to_z w32 (of_z w32 z)) ≡ x
kept z h e = rw (to_z-of_z {w = w32} {z = z} (fits_of h)) e

-- a list made entry by entry: what the entries below t tell, and what is written at t, those below t + 1 tell
pub one_more :
    {A B : Type 0} (h : A → B) {f : ℕ → B} (xs : List A) (t : ℕ) (x d : A)
    → t < length xs → ((s : ℕ) → s < t → h (get_or xs s d) ≡ f s) → h x ≡ f t
    → (s : ℕ) → s < t + 1 → h (get_or (set xs t x) s d) ≡ f s
one_more h {f} xs t x d inside before here =
    below_more
    (λ s. h (get_or (set xs t x) s d) ≡ f s)
    t
    (λ s l. ap h (get_or-set_other xs t s x d (λ e. omega arith)) ∙ before s l)
    (ap h (get_or-set_same xs t x d inside) ∙ here)

-- the larger of what state t has and of what it is offered, written there
pub offered :
    (m : List ℤ) (t : ℕ) (x : Option ℤ) (y : ℤ) → t < length m → held y ≡ larger (row m t) x
    → (s : ℕ) → row (set m t y) s ≡ larger (row m s) (cond (eqb s t) x none)
offered m t x y inside e s = go (eqb s t) refl
  where
    go : (c : Bool) → eqb s t ≡ c → row (set m t y) s ≡ larger (row m s) (cond c x none)
    go true q = let i : s ≡ t = eqb-true s t q in rw (i, get_or-set_same m t y (pos 0) inside) e
    go false q = ap held (get_or-set_other m t s y (pos 0) (eqb-false s t q)) ∙ sym (larger_none (row m s))
