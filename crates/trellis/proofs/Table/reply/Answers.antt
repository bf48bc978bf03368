-- The two checks in turn. A table of a good shape has at most four outputs.
use Rattle.std.proofs.Common.{◌∙◌, ◌≤◌, sym, arith}
use Rattle.refusal.specs.laws.Passing.{check_refuses, check_passes, check_alone, check_shows}
use Rattle.trellis.specs.Table.{table_checks}
use Rattle.trellis.specs.laws.Branches.{shaped_is}
use Rattle.trellis.proofs.Table.reply.Goals as goal

pub returns-in_err-check : goal.returns-in_err-check
unfolding table_checks
returns-in_err-check c = check_refuses _ _ (rw c.is_shaped.ensures at c.in_err-check.ensures) c.from_residual.ensures.1

pub is_branched-requires : goal.is_branched-requires
is_branched-requires c = omega (arith, shaped_is _ (sym c.is_shaped.ensures ∙ check_shows _ c.in_ok-check.ensures))

pub returns : goal.returns
unfolding table_checks
returns c = check_passes _ _ (rw c.is_shaped.ensures at c.in_ok-check.ensures) (check_alone _ (rw c.is_branched.ensures at c.check-2.ensures))
