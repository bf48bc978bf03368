use Rattle.refusal.specs.laws.Passing.{check_refuses, check_passes, check_alone}
use Rattle.coder.proofs.checks.entries_reply.Goals as goal

pub returns-in_err-check : goal.returns-in_err-check
returns-in_err-check c = check_refuses _ _ (rw c.all_below-bits_fit.ensures at c.in_err-check.ensures) c.from_residual.ensures.1

pub returns-in_err-check-2 : goal.returns-in_err-check-2
returns-in_err-check-2 c =
    check_passes _ _ (rw c.all_below-bits_fit.ensures at c.in_ok-check.ensures)
    (check_refuses _ _ (rw c.permutes-pattern_fits.ensures at c.in_err-check-2.ensures) c.from_residual-in_err-check-2.ensures.1)

pub returns-in_err-check-3 : goal.returns-in_err-check-3
returns-in_err-check-3 c =
    check_passes _ _ (rw c.all_below-bits_fit.ensures at c.in_ok-check.ensures)
    (check_passes _ _ (rw c.permutes-pattern_fits.ensures at c.in_ok-check-2.ensures)
    (check_refuses _ _ (rw c.masks_fit.ensures at c.in_err-check-3.ensures) c.from_residual-in_err-check-3.ensures.1))

pub returns : goal.returns
returns c =
    check_passes _ _ (rw c.all_below-bits_fit.ensures at c.in_ok-check.ensures)
    (check_passes _ _ (rw c.permutes-pattern_fits.ensures at c.in_ok-check-2.ensures)
    (check_passes _ _ (rw c.masks_fit.ensures at c.in_ok-check-3.ensures)
    (check_alone _ (rw c.codes.ensures at c.check-4.ensures))))
