use Rattle.std.proofs.Common.{[], ◌∷◌}
use Rattle.refusal.specs.laws.Passing.{check_refuses, check_passes, check_alone, part_refuses, part_passes}
use Rattle.trellis.specs.Limits.{channel_check}
use Rattle.decoder.proofs.checks.entries_reply.Goals as goal

pub returns-in_err-channel_reply : goal.returns-in_err-channel_reply
returns-in_err-channel_reply c = part_refuses (channel_check _ ∷ []) _ c.in_err-channel_reply.ensures c.from_residual.ensures.1

pub returns-in_err-check : goal.returns-in_err-check
returns-in_err-check c =
    part_passes (channel_check _ ∷ []) _ c.in_ok-channel_reply.ensures
    (check_refuses _ _ (rw c.permutes.ensures at c.in_err-check.ensures) c.from_residual-in_err-check.ensures.1)

pub returns-in_err-check-2 : goal.returns-in_err-check-2
returns-in_err-check-2 c =
    part_passes (channel_check _ ∷ []) _ c.in_ok-channel_reply.ensures
    (check_passes _ _ (rw c.permutes.ensures at c.in_ok-check.ensures)
    (check_refuses _ _ (rw c.masks_fit.ensures at c.in_err-check-2.ensures) c.from_residual-in_err-check-2.ensures.1))

pub returns-in_err-check-3 : goal.returns-in_err-check-3
returns-in_err-check-3 c =
    part_passes (channel_check _ ∷ []) _ c.in_ok-channel_reply.ensures
    (check_passes _ _ (rw c.permutes.ensures at c.in_ok-check.ensures)
    (check_passes _ _ (rw c.masks_fit.ensures at c.in_ok-check-2.ensures)
    (check_refuses _ _ (rw c.iterations_fit.ensures at c.in_err-check-3.ensures) c.from_residual-in_err-check-3.ensures.1)))

pub returns : goal.returns
returns c =
    part_passes (channel_check _ ∷ []) _ c.in_ok-channel_reply.ensures
    (check_passes _ _ (rw c.permutes.ensures at c.in_ok-check.ensures)
    (check_passes _ _ (rw c.masks_fit.ensures at c.in_ok-check-2.ensures)
    (check_passes _ _ (rw c.iterations_fit.ensures at c.in_ok-check-3.ensures)
    (check_alone _ (rw c.codes.ensures at c.check-4.ensures)))))
