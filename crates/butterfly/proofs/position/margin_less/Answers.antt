use native.Mathlib.Omega.{arith}
use lib.IntN.{ℤ, pos, ◌-ℤ◌}
use lib.Signed.{quot_z}
use mir.Syntax.{w32}
use mir.Val.{SFits}
use Rattle.integers.specs.Integers.{half}
use Rattle.integers.specs.laws.Bounds.{Within}
use Rattle.integers.specs.laws.Linear.{ints, plain}
use Rattle.trellis.proofs.laws.Sizes.{small_known}
use Rattle.butterfly.proofs.position.margin_less.Goals as goal

-- what is read and computed of two metrics and the part fits
abbrev Fitting : ℤ → ℤ → ℤ → Type 0
Fitting y x i =
    SFits w32 y
    × SFits w32 x
    × SFits w32 i
    × SFits w32 (y -ℤ x)
    × SFits w32 (quot_z (y -ℤ x) (pos 2))
    × SFits w32 (quot_z (y -ℤ x) (pos 2) -ℤ i)

small-fitting : (y x i : ℤ) → Within 100000000 y → Within 100000000 x → Within 9214 i → Fitting y x i
small-fitting y x i = simp ints (omega arith)

fitting : (c : goal.Then-free) → Fitting c.args.one c.args.zero c.args.part
fitting c =
    let (zero-there, one-there) = c.requires.zero_value c.if-free.true in
    small-fitting _ _ _ (small_known (rw one-there at c.requires.small_2)) (small_known (rw zero-there at c.requires.small)) c.requires.within

pub overflow_sub-result : goal.overflow_sub-result
overflow_sub-result c = let (y, x, i, difference, half, rest) = fitting c in simp plain difference

pub returns-then-free : goal.returns-then-free
unfolding half
returns-then-free c = let (y, x, i, difference, half, rest) = fitting c in rw c.if-free.true (simp plain)
