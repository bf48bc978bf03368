-- The first check refuses.
-- Assumes nothing.
use Rattle.std.proofs.Common.{arith}
use Rattle.refusal.specs.laws.Passing.{check_refuses}
use Rattle.taps.specs.Build.{taps_checks}
use Rattle.taps.proofs.checks.taps_reply.Goals as goal

pub returns-in_err-check : goal.returns-in_err-check
unfolding taps_checks
returns-in_err-check c = check_refuses _ _ (grind (arith, c.in_err-check.ensures, c.lists_fit-lists.ensures)) c.from_residual.ensures.1
