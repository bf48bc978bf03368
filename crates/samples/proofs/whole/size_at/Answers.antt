-- The power by which the digits are divided is a shift.
-- Assumes nothing.
use Rattle.std.proofs.Common.{◌≤◌, ◌-◌, arith, pow_pos}
use Rattle.samples.specs.laws.Rounding.{shifted, power_small}
use Rattle.samples.proofs.whole.size_at.Goals as goal

pub quotient-requires : goal.quotient-requires
quotient-requires c =
    let low : 126 ≤ c.args.exponent = omega arith in
    rw (shifted c.args.exponent low) (pow_pos (150 - c.args.exponent), power_small c.args.exponent low, omega arith)
