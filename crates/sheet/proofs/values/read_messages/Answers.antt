-- The line that a turn has is the sheet's, and its number is how many came before it.
use Rattle.std.proofs.Common.{◌≡◌, refl, None, SFits, w32, to_z-of_z, ◌+◌, ◌≤◌, length-set, ap, ◌∙◌, eqb, length, rules, tests, arith}
use Rattle.std.proofs.lemmas.Iterator.{YieldsList-from_take}
use Rattle.std.proofs.lemmas.Iterator.Adapters.{YieldsList-from_skip}
use Rattle.std.proofs.lemmas.Iterator.Splits.{YieldsList-from_slice_split}
use Rattle.std.proofs.lemmas.Iterator.Consumers.{YieldsList-from_enumerate, YieldsList-turn, YieldsList-end}
use Rattle.std.proofs.lemmas.List.{length_push}
use Rattle.std.proofs.lemmas.List.FromFn.{length-enumerate_from}
use Rattle.lists.specs.Lists.{joined}
use Rattle.lists.specs.laws.Stores.{filled_none, filled_all}
use Rattle.text.specs.Text.{cut}
use Rattle.rows.specs.declared.Message.{Message}
use Rattle.rows.specs.contracts.MessageDefault.TheImpl.{is_default-value}
use Rattle.rows.specs.Lent.{message_or_zeros}
use Rattle.sheet.specs.laws.Receiving.{message_read}
use Rattle.sheet.proofs.Receiving.{message_zeros, message_unwrapped, row_lines, rows_many, row_read, named_more, valued_more}
use Rattle.sheet.proofs.values.read_messages.Goals as goal

abbrev the_zeros : Message → Type 0
the_zeros = is_default-value.it

zeros : (m : Message) → the_zeros m → m ≡ message_or_zeros None
zeros m p = message_zeros m p.0 p.1.0 p.1.1.0 p.1.1.1

pub loop-k-init : goal.loop-k-init
unfolding joined
loop-k-init c = record { pattern_len = refl; values_len = refl; named = filled_none _; valued = refl }

pub loop-k-preserved : goal.loop-k-preserved
loop-k-preserved c =
    let sheet = c.args.sheet.now in
    let rows = length c.args.pattern.now in
    let n = length c.loop-k.yielded in
    let inv = c.loop-k.invariant in
    let m = c.unwrap_or_default-row.result in
    let long : rows + 1 ≤ length (cut 10 sheet) = omega (arith, c.requires.sheet_len) in
    let turn = YieldsList-turn
    (YieldsList-from_enumerate
    (YieldsList-from_take (length c.args.pattern.now)
    (YieldsList-from_skip 1
    (YieldsList-from_slice_split _ (λ b. eqb b 10) c.args.sheet.now (cc) (cc) c.split.ensures.closure (λ x b q k. search (rules, tests)))
    (cc))
    (cc))
    (cc))
    c.loop-k.yielded _ c.loop-k.yielded_by _ _ _ c.in-Some.is c.next.ensures.steps in
    let line = row_read sheet rows long n c.in-Some.k c.in-Some.line.now turn in
    let row = message_unwrapped the_zeros c.message_row.result m c.unwrap_or_default-row.ensures zeros in
    let read = message_read sheet c.in-Some.line.now c.in-Some.k rows m c.requires.sheet_len (omega (arith, line.number, line.within)) line.line_lem (row ∙ ap message_or_zeros c.message_row.ensures) in
    let f : SFits w32 m.sys = search rules in
    let g : SFits w32 m.par = search rules in
    let h : SFits w32 m.par2 = search rules in
    rw (length_push c.loop-k.yielded (c.in-Some.k, c.in-Some.line)) record {
      pattern_len = simp length-set inv.pattern_len;
      values_len = c.put3.auto.values ∙ inv.values_len;
      named = named_more _ c.loop-k.pattern n c.in-Some.k m.to line.number (omega (arith, line.within, inv.pattern_len)) read.to_is inv.named;
      valued = valued_more _ c.loop-k.values _ _ n c.in-Some.k line.number (rw (to_z-of_z f, to_z-of_z g, to_z-of_z h) at c.put3.ensures) read.values_are inv.valued;
    }

pub returns : goal.returns
returns c =
    let sheet = c.args.sheet.now in
    let rows = length c.args.pattern.now in
    let long : rows + 1 ≤ length (cut 10 sheet) = omega (arith, c.requires.sheet_len) in
    let end = YieldsList-end
    (YieldsList-from_enumerate
    (YieldsList-from_take (length c.args.pattern.now)
    (YieldsList-from_skip 1
    (YieldsList-from_slice_split _ (λ b. eqb b 10) c.args.sheet.now (cc) (cc) c.split.ensures.closure (λ x b q k. search (rules, tests)))
    (cc))
    (cc))
    (cc))
    c.loop-k.yielded _ c.loop-k.yielded_by _ _ c.in-None.is c.next.ensures.steps in
    let all : length c.loop-k.yielded ≡ rows = omega (arith, end.1, length-enumerate_from 0 (row_lines sheet rows), rows_many sheet rows long) in
    record { pattern_after = filled_all c.loop-k.invariant.pattern_len (rw all at c.loop-k.invariant.named); values_after = rw all at c.loop-k.invariant.valued }
