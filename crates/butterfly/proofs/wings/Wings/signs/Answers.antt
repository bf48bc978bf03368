use mathlib.Core.Path.{◌≡◌, refl, ap, ◌∙◌}
use mathlib.Core.List.{List}
use Prim.Native.Nat.{ℕ, ◌+◌, ◌<◌}
use native.Mathlib.Decide.{ℕ_discrete}
use native.Mathlib.Omega.{arith}
use lib.IntN.{ℤ, pos}
use lib.ListN.{length, get_or, set, length-set}
use lib.Seq.{get_or-set_same, get_or-set_other}
use mir.Facts.{to_z-of_z}
use mir.Syntax.{w32}
use Rattle.integers.specs.laws.Linear.{fits_of}
use Rattle.lists.specs.laws.Stores.{filled_more}
use Rattle.butterfly.specs.laws.Tables.{sign_of, input_sign, parity_sign, AreSigns}
use Rattle.butterfly.proofs.wings.Wings.signs.Goals as goal

-- the signs of one wing more
signs-more :
    {next words : List ℕ} {i : ℕ} {all : List ℤ} {a b : ℤ} → length all ≡ 16 → i < 8 → a ≡ input_sign next i → b ≡ parity_sign next words i
    → AreSigns next words i all → AreSigns next words (i + 1) (set (set all i a) (8 + i) b)
signs-more {next} {words} {i} {all} {a} {b} sixteen few a-is b-is are = record { input = inputs; parity = parities }
  where
    inputs : (j : ℕ) → j < i + 1 → get_or (set (set all i a) (8 + i) b) j (pos 0) ≡ input_sign next j
    inputs j l =
        get_or-set_other (set all i a) (8 + i) j b (pos 0) (λ e. omega arith)
        ∙ (filled_more {f = input_sign next} {xs = all} (omega arith) a-is (record { entry = are.input })).entry j l

    parities : (j : ℕ) → j < i + 1 → get_or (set (set all i a) (8 + i) b) (8 + j) (pos 0) ≡ parity_sign next words j
    parities j l = elim (ℕ_discrete j i) [
      | yes e ↦ rw e (get_or-set_same (set all i a) (8 + i) b (pos 0) (omega (arith, length-set all i a)) ∙ b-is)
      | no d ↦
          get_or-set_other (set all i a) (8 + i) (8 + j) b (pos 0) (λ e. d (omega arith))
          ∙ get_or-set_other all i (8 + j) a (pos 0) (λ e. omega arith)
          ∙ are.parity j (omega arith)
    ]

pub loop-i-init : goal.loop-i-init
loop-i-init c = record { long = refl; are = record { input = λ i l. absurd (omega arith); parity = λ i l. absurd (omega arith) } }

pub loop-i-preserved : goal.loop-i-preserved
loop-i-preserved c =
    let straight = c.is_straight-straight.ensures in
    let inv = c.loop-i.invariant in
    record {
      long = simp length-set inv.long;
      are =
          signs-more
          inv.long
          (omega arith)
          (to_z-of_z {w = w32} (fits_of c.sign_of.type_inv) ∙ c.sign_of.ensures ∙ ap sign_of straight)
          (to_z-of_z {w = w32} (fits_of c.sign_of-in-loop-i.type_inv) ∙ c.sign_of-in-loop-i.ensures ∙ ap sign_of (rw straight at c.has_zero_parity-parity.ensures))
          inv.are;
    }

pub returns : goal.returns
returns c = let e : c.loop-i.i ≡ c.args.self.now.half = omega arith in rw e at c.loop-i.invariant.are
