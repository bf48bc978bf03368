-- The three checks in turn.
-- Assumes nothing.
use Rattle.std.proofs.Common.{arith}
use Rattle.refusal.specs.laws.Passing.{check_refuses, check_passes}
use Rattle.polynomial.specs.Polynomial.{size_checks, bits_fit}
use Rattle.polynomial.proofs.sizes_reply.Goals as goal

pub returns-in_err-check : goal.returns-in_err-check
unfolding size_checks
returns-in_err-check c = check_refuses _ _ (grind (arith, c.in_err-check.ensures, c.fits-coefficients.ensures)) c.from_residual.ensures.1

pub returns-in_err-check-2 : goal.returns-in_err-check-2
unfolding size_checks bits_fit
returns-in_err-check-2 c = check_passes _ _ (grind (arith, c.in_ok-check.ensures, c.fits-coefficients.ensures)) (check_refuses _ _ (grind (arith, c.in_err-check-2.ensures, c.sizes_fit-length.ensures)) c.from_residual-in_err-check-2.ensures.1)
