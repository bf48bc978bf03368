-- The channel value of a float, by what its bits say.
-- Assumes nothing.
use Rattle.std.proofs.Common.{sym, ap, ◌∙◌, rules, leb, SFits, to_z-of_z, T}
use Rattle.std.specs.Int.{w16}
use lib.Ieee.{binary32, fits, to_bits}
use lib.Ieee.Bits.{of_bits-to_bits, is_false}
use Rattle.samples.specs.Samples.{with_sign, nearest_value}
use Rattle.samples.specs.laws.Rounding.{of_bits_lem}
use Rattle.samples.proofs.whole.nearest.Goals as goal

pub returns : goal.returns
returns c =
    let x = c.args.x in
    let whole : T (fits binary32 x) = search rules in
    let back = of_bits-to_bits binary32 x whole in
    let small : SFits w16 c.signed.result = search rules in
    to_z-of_z small
    ∙ c.signed.ensures
    ∙ ap (with_sign (leb 2147483648 (to_bits binary32 x))) c.size_at-size.ensures.0
    ∙ sym (of_bits_lem (to_bits binary32 x) (rw back (is_false _ c.requires)))
    ∙ ap nearest_value back
