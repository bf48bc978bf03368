use Rattle.std.specs.Prelude.{◌≡◌, refl, true, ◌&&◌, [], ◌∷◌, ℕ, ◌+◌, ◌*◌, eqb, leb, length, Ok, Err}
use Rattle.std.proofs.Common.{sym, ◌∙◌, eqb-true}
use Rattle.std.proofs.lemmas.Bool.{false≢true}
use Rattle.std.specs.Result.{is_ok}
use Rattle.lists.specs.laws.Tests.{and_both}
use Rattle.refusal.specs.Refusals.{Reply, first_of}
use Rattle.refusal.specs.laws.InTurn.{Each, each_holds}
use Rattle.trellis.specs.Table.{table_checks}
use Rattle.trellis.specs.Limits.{sections_fit, channel_check, apriori_check}
use Rattle.siso.specs.Decode.{Call, Lent}
use Rattle.siso.specs.laws.Accepted.{Accepted}
use Rattle.siso.specs.laws.Pass.{Sized}
use Rattle.butterfly.proofs.checks.takes.Goals as goal
use Rattle.butterfly.proofs.checks.takes.Goals.{then-is_butterfly, else-is_butterfly, then-lists_fit, else-lists_fit}

ok_is : (r : Reply) → is_ok r ≡ true → ◌≡◌ {A = Reply} r (Ok tt)
ok_is (Ok u) e = refl
ok_is (Err x) e = absurd (false≢true e)

-- what the lengths, the table's reply and that of the values tell together
accepted :
    (c : Call) (l : Lent) {marks margins extrinsics work : ℕ} → Sized l marks margins extrinsics work
    → (leb c.table.states 16 && leb c.table.outputs 4 && sections_fit c.sections
    && eqb (length c.values.channel) (c.table.outputs * c.sections)
    && eqb (length c.values.apriori) c.sections
    && eqb marks c.sections
    && eqb margins c.sections
    && eqb extrinsics c.sections
    && eqb work ((c.sections + 1) * c.table.states)) ≡ true
    → first_of (table_checks c.table) ≡ Ok tt → first_of (channel_check c.values.channel ∷ apriori_check c.values.apriori ∷ []) ≡ Ok tt → Accepted c l
unfolding table_checks Each
accepted c l sized lists table values =
    let (shape, (branches, end)) = each_holds (table_checks c.table) table in
    let (channel_small, (apriori_small, rest)) = each_holds (channel_check c.values.channel ∷ apriori_check c.values.apriori ∷ []) values in
    let (up-to-extrinsics, work) = and_both _ _ lists in
    let (up-to-margins, extrinsics) = and_both _ _ up-to-extrinsics in
    let (up-to-marks, margins) = and_both _ _ up-to-margins in
    let (up-to-apriori, marks) = and_both _ _ up-to-marks in
    let (up-to-channel, apriori) = and_both _ _ up-to-apriori in
    let (sizes, channel) = and_both _ _ up-to-channel in
    record {
      pass = record {
        shape = shape;
        branches = branches;
        fits = (and_both (leb c.table.states 16 && leb c.table.outputs 4) _ sizes).1;
        channel_long = eqb-true _ _ channel;
        apriori_long = eqb-true _ _ apriori;
        channel_small = channel_small;
        apriori_small = apriori_small;
      };
      marks_long = sized.marks_sized ∙ eqb-true _ _ marks;
      margins_long = sized.margins_sized ∙ eqb-true _ _ margins;
      extrinsics_long = sized.extrinsics_sized ∙ eqb-true _ _ extrinsics;
      work_long = sized.work_sized ∙ eqb-true _ _ work;
    }

pub returns-then-is_ok : goal.returns-then-is_ok
returns-then-is_ok c e = elim c.if-lists_fit.branch [
  | then-lists_fit w ↦ elim c.if-is_butterfly.branch [
    | then-is_butterfly b ↦
        let lists = sym b.lists_fit.ensures ∙ sym b.value-is ∙ w.if-lists_fit.true in
        let table = sym w.reply.ensures ∙ ok_is _ (sym w.is_ok.ensures.value ∙ sym w.value-is ∙ c.if-is_ok.true) in
        let values = sym c.values_reply.ensures ∙ ok_is _ (sym c.is_ok-then-is_ok.ensures.value ∙ e) in
        rw (← c.pass.view_is) (c.is_butterfly.ensures b.if-is_butterfly.true, λ l sized. accepted _ l sized lists table values)
    | else-is_butterfly b ↦ absurd (false≢true (sym b.if-is_butterfly.false ∙ sym b.value-is ∙ w.if-lists_fit.true))
  ]
  | else-lists_fit w ↦ absurd (false≢true (sym w.if-lists_fit.false ∙ sym w.value-is ∙ c.if-is_ok.true))
]
