-- What a call that passes the checks is, and no other: the pass is within its limits, and every list that was lent has its exact length.
-- Assumes nothing.
use Rattle.std.specs.Prelude.{◌≡◌, ◌+◌, ◌*◌, length, Ok}
use Rattle.std.proofs.Common.{eqb-true, eq-eqb}
use Rattle.lists.specs.laws.Tests.{and_both, and_true}
use Rattle.refusal.specs.Refusals.{first_of}
use Rattle.refusal.specs.laws.InTurn.{Each, each_holds, each_done}
use Rattle.trellis.specs.Table.{table_checks}
use Rattle.siso.specs.Decode.{Call, Lent, lists_fit, lent_checks}
use Rattle.siso.specs.laws.Pass.{Pass}

pub record Accepted (c : Call) (l : Lent) : Type 0 where
  pub pass : Pass c.table c.sections c.values
  pub marks_long : length l.marks ≡ c.sections
  pub margins_long : length l.margins ≡ c.sections
  pub extrinsics_long : length l.extrinsics ≡ c.sections
  pub work_long : length l.work ≡ (c.sections + 1) * c.table.states

pub accepted : (c : Call) (l : Lent) → first_of (lent_checks c l) ≡ Ok tt → Accepted c l
unfolding lent_checks table_checks Each lists_fit
accepted c l e =
    let (shape, (branches, (fits, (lists, (channel_small, (apriori_small, end)))))) = each_holds (lent_checks c l) e in
    let (up-to-extrinsics, work) = and_both _ _ lists in
    let (up-to-margins, extrinsics) = and_both _ _ up-to-extrinsics in
    let (up-to-marks, margins) = and_both _ _ up-to-margins in
    let (values, marks) = and_both _ _ up-to-marks in
    let (channel, apriori) = and_both _ _ values in
    record {
      pass = record {
        shape = shape;
        branches = branches;
        fits = fits;
        channel_long = eqb-true _ _ channel;
        apriori_long = eqb-true _ _ apriori;
        channel_small = channel_small;
        apriori_small = apriori_small;
      };
      marks_long = eqb-true _ _ marks;
      margins_long = eqb-true _ _ margins;
      extrinsics_long = eqb-true _ _ extrinsics;
      work_long = eqb-true _ _ work;
    }

-- and the other way: such a call passes the checks
pub accepts : (c : Call) (l : Lent) → Accepted c l → first_of (lent_checks c l) ≡ Ok tt
unfolding lent_checks table_checks Each lists_fit
accepts c l a =
    let p = a.pass in
    let values = and_true (eq-eqb _ _ p.channel_long) (eq-eqb _ _ p.apriori_long) in
    let results = and_true (and_true (and_true values (eq-eqb _ _ a.marks_long)) (eq-eqb _ _ a.margins_long)) (eq-eqb _ _ a.extrinsics_long) in
    let lists = and_true results (eq-eqb _ _ a.work_long) in
    each_done (lent_checks c l) (p.shape, (p.branches, (p.fits, (lists, (p.channel_small, (p.apriori_small, tt))))))
