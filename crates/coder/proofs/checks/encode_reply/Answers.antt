use Rattle.std.proofs.Common.{sym, ◌∙◌}
use Rattle.refusal.specs.laws.Passing.{check_refuses, check_passes, check_shows, part_refuses, part_passes}
use Rattle.trellis.specs.Table.{table_checks}
use Rattle.frame.specs.Frame.{frame_of, sizes_fit}
use Rattle.coder.specs.Coder.{encode_lent_checks}
use Rattle.coder.proofs.Listed.{measured, entries}
use Rattle.coder.proofs.checks.encode_reply.Goals as goal

pub returns-in_err-reply : goal.returns-in_err-reply
unfolding encode_lent_checks
returns-in_err-reply c = part_refuses (table_checks _) _ (rw c.table-table.ensures at c.in_err-reply.ensures) c.from_residual.ensures.1

pub returns-in_err-check : goal.returns-in_err-check
unfolding encode_lent_checks sizes_fit
returns-in_err-check c =
    part_passes (table_checks _) _ (rw c.table-table.ensures at c.in_ok-reply.ensures)
    (rw (← c.frame.view_is) (check_refuses _ _ (rw c.sizes_fit.ensures at c.in_err-check.ensures) c.from_residual-in_err-check.ensures.1))

pub returns-in_err-check-2 : goal.returns-in_err-check-2
unfolding encode_lent_checks sizes_fit
returns-in_err-check-2 c =
    let sizes = sym c.sizes_fit.ensures ∙ check_shows _ c.in_ok-check.ensures in
    let f = frame_of c.frame.inside.format c.frame.inside.next.now c.frame.inside.words.now c.frame.inside.pattern.now c.frame.inside.masks.now in
    let lists = measured f c.args.message.now c.args.sent.now sizes c.encode_lists_fit-lists_fit.ensures in
    part_passes (table_checks _) _ (rw c.table-table.ensures at c.in_ok-reply.ensures)
    (rw (← c.frame.view_is)
    (check_passes _ _ (rw c.sizes_fit.ensures at c.in_ok-check.ensures)
    (check_refuses _ _ (rw lists at c.in_err-check-2.ensures) c.from_residual-in_err-check-2.ensures.1)))

pub returns : goal.returns
unfolding encode_lent_checks sizes_fit
returns c =
    let sizes = sym c.sizes_fit.ensures ∙ check_shows _ c.in_ok-check.ensures in
    let lists = measured _ _ _ sizes c.encode_lists_fit-lists_fit.ensures in
    part_passes (table_checks _) _ (rw c.table-table.ensures at c.in_ok-reply.ensures)
    (rw (← c.frame.view_is)
    (check_passes _ _ (rw c.sizes_fit.ensures at c.in_ok-check.ensures)
    (check_passes _ _ (rw lists at c.in_ok-check-2.ensures)
    (entries _ _ _ sizes (sym lists ∙ check_shows _ c.in_ok-check-2.ensures) (rw (c.table-table.ensures, ← c.frame.view_is) at c.entries_reply.ensures)))))
