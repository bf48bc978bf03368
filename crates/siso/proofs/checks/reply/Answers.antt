use Rattle.std.specs.Prelude.{◌≡◌, Bool, ◌&&◌, eqb, leb, ◌+◌, ◌*◌, length, ℕ, true, Ok}
use Rattle.std.proofs.Common.{sym, ◌∙◌, le-leb}
use Rattle.refusal.specs.Refusals.{first_of}
use Rattle.refusal.specs.laws.InTurn.{Each, each_holds}
use Rattle.refusal.specs.laws.Passing.{check_refuses, check_passes, check_shows, part_refuses, part_passes}
use Rattle.refusal.specs.declared.Refusal.TheVariants.{Length}
use Rattle.trellis.specs.Table.{table_checks}
use Rattle.trellis.specs.Limits.{sections_fit}
use Rattle.trellis.specs.laws.Branches.{shaped_is}
use Rattle.siso.specs.Decode.{Call, Lent, lists_fit, lent_checks}
use Rattle.siso.specs.Lent.{lone_call_of}
use Rattle.siso.specs.laws.Pass.{Sized}
use Rattle.siso.proofs.checks.reply.Goals as goal

pub returns-in_err-reply : goal.returns-in_err-reply
unfolding lent_checks
returns-in_err-reply c l sized = rw (← c.pass.view_is) (part_refuses (table_checks _) _ c.in_err-reply.ensures c.from_residual.ensures.1)

pub returns-in_err-check : goal.returns-in_err-check
unfolding lent_checks
returns-in_err-check c l sized =
    rw (← c.pass.view_is) (part_passes (table_checks _) _ c.in_ok-reply.ensures
    (check_refuses _ _ (rw c.sections_fit.ensures at c.in_err-check.ensures) c.from_residual-in_err-check.ensures.1))

-- the sizes are tested again where the lists are measured, and pass
lists-measured :
    (p : Call) (l : Lent) {marks margins extrinsics work : ℕ} → Sized l marks margins extrinsics work
    → Ok tt ≡ first_of (table_checks p.table) → sections_fit p.sections ≡ true → {b : Bool}
    → b ≡ (leb p.table.states 16 && leb p.table.outputs 4 && sections_fit p.sections
    && eqb (length p.values.channel) (p.table.outputs * p.sections)
    && eqb (length p.values.apriori) p.sections
    && eqb marks p.sections
    && eqb margins p.sections
    && eqb extrinsics p.sections
    && eqb work ((p.sections + 1) * p.table.states))
    → b ≡ lists_fit p l
unfolding lists_fit table_checks Each
lists-measured p l sized table few e =
    let limits = shaped_is _ (each_holds (table_checks _) (sym table)).0 in
    rw (sized.marks_sized, sized.margins_sized, sized.extrinsics_sized, sized.work_sized)
    (rw (le-leb _ _ limits.most_states, le-leb _ _ limits.most_outputs, few) at e)

pub returns-in_err-check-2 : goal.returns-in_err-check-2
unfolding lent_checks
returns-in_err-check-2 c l sized =
    let few = sym c.sections_fit.ensures ∙ check_shows Length c.in_ok-check.ensures in
    let p = lone_call_of c.pass.inside.format c.pass.inside.next.now c.pass.inside.words.now c.pass.inside.channel.now c.pass.inside.apriori.now in
    rw (← c.pass.view_is) (part_passes (table_checks _) _ c.in_ok-reply.ensures
    (check_passes _ _ (rw c.sections_fit.ensures at c.in_ok-check.ensures)
    (check_refuses _ _ (rw (lists-measured p l sized c.in_ok-reply.ensures few c.lists_fit-lists.ensures) at c.in_err-check-2.ensures) c.from_residual-in_err-check-2.ensures.1)))

pub returns : goal.returns
unfolding lent_checks
returns c l sized =
    let few = sym c.sections_fit.ensures ∙ check_shows Length c.in_ok-check.ensures in
    let p = lone_call_of c.pass.inside.format c.pass.inside.next.now c.pass.inside.words.now c.pass.inside.channel.now c.pass.inside.apriori.now in
    rw (← c.pass.view_is) (part_passes (table_checks _) _ c.in_ok-reply.ensures
    (check_passes _ _ (rw c.sections_fit.ensures at c.in_ok-check.ensures)
    (check_passes _ _ (rw (lists-measured p l sized c.in_ok-reply.ensures few c.lists_fit-lists.ensures) at c.in_ok-check-2.ensures) c.values_reply.ensures)))
