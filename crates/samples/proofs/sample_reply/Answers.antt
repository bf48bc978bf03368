-- The checks in turn, where one refuses.
-- Assumes nothing.
use Rattle.std.proofs.Common.{arith}
use Rattle.refusal.specs.laws.Passing.{check_refuses, check_passes}
use Rattle.samples.specs.Samples.{sample_checks}
use Rattle.samples.proofs.sample_reply.Goals as goal

pub returns-in_err-check : goal.returns-in_err-check
unfolding sample_checks
returns-in_err-check c = check_refuses _ _ c.in_err-check.ensures c.from_residual.ensures.1

pub returns-in_err-check-2 : goal.returns-in_err-check-2
unfolding sample_checks
returns-in_err-check-2 c =
    check_passes _ _ c.in_ok-check.ensures (check_refuses _ _ (grind (arith, c.in_err-check-2.ensures, c.setting_fits-numbers.ensures)) c.from_residual-in_err-check-2.ensures.1)
