-- The line that a turn has is the sheet's, and its number is how many came before it.
use Rattle.std.proofs.Common.{sym, ◌∙◌, eqb, rules, tests, arith}
use Rattle.std.proofs.lemmas.Iterator.{YieldsList-from_take}
use Rattle.std.proofs.lemmas.Iterator.Splits.{YieldsList-from_slice_split}
use Rattle.std.proofs.lemmas.Iterator.Consumers.{YieldsList-from_enumerate, YieldsList-turn, YieldsList-end}
use Rattle.std.proofs.lemmas.List.{length_push}
use Rattle.std.proofs.lemmas.List.FromFn.{length-enumerate_from}
use Rattle.rows.specs.Lines.{lines_of}
use Rattle.rows.proofs.Cutting.{lines_split, line_read, faulty, fault_within, faultless, no_fault}
use Rattle.rows.proofs.faults.first_fault.Goals as goal

pub returns-then-not-line_fits-clause-upper_bound : goal.returns-then-not-line_fits-clause-upper_bound
returns-then-not-line_fits-clause-upper_bound c =
    let turn = YieldsList-turn
    (YieldsList-from_enumerate
    (YieldsList-from_take c.args.lines
    (YieldsList-from_slice_split _ (λ b. eqb b 10) c.args.sheet.now (cc) (cc) c.split.ensures.closure (λ x b q k. search (rules, tests)))
    (cc))
    (cc))
    c.loop-i.yielded _ c.loop-i.yielded_by _ _ _ c.in-Some.is c.next.ensures.steps in
    let read = line_read c.args.sheet.now c.args.lines _ c.in-Some.i c.in-Some.line.now c.requires turn in
    fault_within _ _ _ _ c.requires c.loop-i.invariant _ _ read

pub returns-then-not-line_fits-clause-sheet_value : goal.returns-then-not-line_fits-clause-sheet_value
returns-then-not-line_fits-clause-sheet_value c =
    let turn = YieldsList-turn
    (YieldsList-from_enumerate
    (YieldsList-from_take c.args.lines
    (YieldsList-from_slice_split _ (λ b. eqb b 10) c.args.sheet.now (cc) (cc) c.split.ensures.closure (λ x b q k. search (rules, tests)))
    (cc))
    (cc))
    c.loop-i.yielded _ c.loop-i.yielded_by _ _ _ c.in-Some.is c.next.ensures.steps in
    let read = line_read c.args.sheet.now c.args.lines _ c.in-Some.i c.in-Some.line.now c.requires turn in
    faulty _ _ _ _ c.requires c.loop-i.invariant _ _ read (sym c.line_fits.ensures ∙ c.if-not-line_fits.true)

pub loop-i-preserved : goal.loop-i-preserved
loop-i-preserved c =
    let turn = YieldsList-turn
    (YieldsList-from_enumerate
    (YieldsList-from_take c.args.lines
    (YieldsList-from_slice_split _ (λ b. eqb b 10) c.args.sheet.now (cc) (cc) c.split.ensures.closure (λ x b q k. search (rules, tests)))
    (cc))
    (cc))
    c.loop-i.yielded _ c.loop-i.yielded_by _ _ _ c.in-Some.is c.next.ensures.steps in
    let read = line_read c.args.sheet.now c.args.lines _ c.in-Some.i c.in-Some.line.now c.requires turn in
    rw (length_push c.loop-i.yielded (c.in-Some.i, c.in-Some.line))
    (faultless _ _ _ _ c.requires c.loop-i.invariant _ _ read (sym c.line_fits.ensures ∙ c.if-not-line_fits.false))

pub returns-clause-sheet_value : goal.returns-clause-sheet_value
returns-clause-sheet_value c =
    let end = YieldsList-end
    (YieldsList-from_enumerate
    (YieldsList-from_take c.args.lines
    (YieldsList-from_slice_split _ (λ b. eqb b 10) c.args.sheet.now (cc) (cc) c.split.ensures.closure (λ x b q k. search (rules, tests)))
    (cc))
    (cc))
    c.loop-i.yielded _ c.loop-i.yielded_by _ _ c.in-None.is c.next.ensures.steps in
    let ended = rw (lines_split c.args.sheet.now c.args.lines c.requires) at end.1 in
    no_fault _ _ _ _ c.requires c.loop-i.invariant (omega (arith, ended, length-enumerate_from 0 (lines_of c.args.sheet.now)))
