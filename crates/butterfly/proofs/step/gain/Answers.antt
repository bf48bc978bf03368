use mathlib.Core.Path.{◌≡◌, ap₂}
use native.Mathlib.Omega.{arith}
use lib.IntN.{ℤ, ◌+ℤ◌, ◌*ℤ◌}
use Rattle.integers.specs.laws.Bounds.{Within}
use mir.Syntax.{w32}
use mir.Val.{SFits}
use Rattle.integers.specs.laws.Laws.{within_more}
use Rattle.integers.specs.laws.Linear.{plain}
use Rattle.butterfly.specs.laws.Metrics.{IsSign, gain_of}
use Rattle.butterfly.proofs.Sums.{small_fits, sign_times, product_fits, gain_small}
use Rattle.butterfly.proofs.step.gain.Goals as goal

-- neither product is out of range, nor is their sum
module _ (input parity : ℤ) {own other : ℤ} (own_small : Within 9214 own) (other_small : Within 1023 other) (sign : IsSign input) (sign_2 : IsSign parity) where
  own-fits : SFits w32 own
  own-fits = small_fits _ (within_more (omega arith) own_small)

  other_fits : SFits w32 other
  other_fits = small_fits _ (within_more (omega arith) other_small)

  first : SFits w32 (input *ℤ own)
  first = product_fits _ _ (omega arith) sign own_small

  second : SFits w32 (parity *ℤ other)
  second = product_fits _ _ (omega arith) sign_2 other_small

  is : input *ℤ own +ℤ parity *ℤ other ≡ gain_of input parity own other
  is = ap₂ (λ p q. p +ℤ q) (sign_times _ _ sign) (sign_times _ _ sign_2)

  sum : SFits w32 (input *ℤ own +ℤ parity *ℤ other)
  sum = rw is (small_fits _ (within_more (omega arith) (gain_small input parity own_small other_small)))

pub overflow_add-result : goal.overflow_add-result
overflow_add-result c =
    let v = c.args.values in
    let i = c.args.input in
    let p = c.args.parity in
    let one = c.requires.sign in
    let two = c.requires.sign_2 in
    let input-fits = c.ranges.input in
    let parity-fits = c.ranges.parity in
    let f0 : SFits w32 v.own = own-fits i p v.own_small v.other_small one two in
    let f1 : SFits w32 v.other = other_fits i p v.own_small v.other_small one two in
    let f2 : SFits w32 (i *ℤ v.own) = first i p v.own_small v.other_small one two in
    let f3 : SFits w32 (p *ℤ v.other) = second i p v.own_small v.other_small one two in
    simp plain (sum i p v.own_small v.other_small one two)

pub returns : goal.returns
returns c =
    let v = c.args.values in
    let i = c.args.input in
    let p = c.args.parity in
    let one = c.requires.sign in
    let two = c.requires.sign_2 in
    let input-fits = c.ranges.input in
    let parity-fits = c.ranges.parity in
    let f0 : SFits w32 v.own = own-fits i p v.own_small v.other_small one two in
    let f1 : SFits w32 v.other = other_fits i p v.own_small v.other_small one two in
    let f2 : SFits w32 (i *ℤ v.own) = first i p v.own_small v.other_small one two in
    let f3 : SFits w32 (p *ℤ v.other) = second i p v.own_small v.other_small one two in
    let f4 : SFits w32 (i *ℤ v.own +ℤ p *ℤ v.other) = sum i p v.own_small v.other_small one two in
    simp plain (is i p v.own_small v.other_small one two)
