use Rattle.std.proofs.Common.{refl, sym, pos, rules, arith, length}
use Rattle.std.proofs.Math.Bool.{and-false}
use Rattle.lists.specs.laws.Tests.{and_true}
use Rattle.refusal.specs.declared.Refusal.TheVariants.{Lists, Pattern, ForcedPosition}
use Rattle.refusal.specs.Refusals.{first_of, after}
use Rattle.refusal.specs.laws.Checks.{fails_first, passes_first}
use Rattle.soft.specs.Soft.{decided}
use Rattle.result.specs.Result.{conclude_lists_fit, conclude_checks, conclude_settled}
use Rattle.result.specs.laws.Concluding.{concluded_not, concluded_done}
use Rattle.result.proofs.Fitting.{fits, pattern_permutes}
use Rattle.result.proofs.conclude.Goals as goal

pub returns-then-not-passes_fit : goal.returns-then-not-passes_fit
unfolding conclude_checks conclude_lists_fit first_of
returns-then-not-passes_fit c = concluded_not _ _ (fails_first _ (rw (sym c.if-not-passes_fit.ensures)))

pub returns-then-not-results_fit : goal.returns-then-not-results_fit
unfolding conclude_checks conclude_lists_fit first_of
returns-then-not-results_fit c = concluded_not _ _ (fails_first _ (rw (sym c.if-not-results_fit.ensures, and-false)))

pub returns-then-not-permutes : goal.returns-then-not-permutes
unfolding conclude_checks first_of
returns-then-not-permutes c =
    concluded_not _ _
    (passes_first Lists (fits _ _ c.if-not-passes_fit.ensures c.if-not-results_fit.ensures) (fails_first _ (sym c.if-not-permutes.ensures)))

pub returns-then-not-all_free : goal.returns-then-not-all_free
unfolding conclude_checks first_of
returns-then-not-all_free c =
    concluded_not _ _
    (passes_first Lists (fits _ _ c.if-not-passes_fit.ensures c.if-not-results_fit.ensures)
    (passes_first Pattern (sym c.if-not-permutes.ensures) (fails_first _ (rw (sym c.if-not-all_free.ensures)))))

pub returns-then-not-all_free-2 : goal.returns-then-not-all_free-2
unfolding conclude_checks first_of
returns-then-not-all_free-2 c =
    concluded_not _ _
    (passes_first Lists (fits _ _ c.if-not-passes_fit.ensures c.if-not-results_fit.ensures)
    (passes_first Pattern (sym c.if-not-permutes.ensures) (fails_first _ (rw (sym c.if-not-all_free-2.ensures, and-false)))))

pub in_message_order-requires-clause-permutes : goal.in_message_order-requires-clause-permutes
in_message_order-requires-clause-permutes c = pattern_permutes _ c.if-not-permutes.ensures

pub in_message_order-requires-2-clause-permutes : goal.in_message_order-requires-2-clause-permutes
in_message_order-requires-2-clause-permutes c = pattern_permutes _ c.if-not-permutes.ensures

pub returns : goal.returns
unfolding conclude_checks conclude_settled after first_of
returns c =
    let bits = c.deinterleave.ensures (pos 0) 0 (pattern_permutes _ c.if-not-permutes.ensures) (search rules) (search rules) in
    let free = and_true (sym c.if-not-all_free.ensures) (sym c.if-not-all_free-2.ensures) in
    rw (bits, c.in_message_order.ensures, c.in_message_order-2.ensures)
    (concluded_done _ _
    (passes_first Lists (fits _ _ c.if-not-passes_fit.ensures c.if-not-results_fit.ensures)
    (passes_first Pattern (sym c.if-not-permutes.ensures) (passes_first ForcedPosition free refl))))
