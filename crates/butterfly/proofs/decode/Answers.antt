use Rattle.std.specs.Prelude.{refl, length}
use Rattle.std.proofs.Common.{◌∙◌}
use Rattle.siso.specs.Decode.{Lent}
use Rattle.siso.specs.Lent.{lone_lent_of}
use Rattle.siso.specs.laws.Accepted.{accepts}
use Rattle.siso.specs.laws.Pass.{Sized}
use Rattle.siso.specs.laws.Settled.{decode_walked}
use Rattle.butterfly.proofs.decode.Goals as goal

-- the lists have the lengths that the checks look at
sized : (l : Lent) → Sized l (length l.marks) (length l.margins) (length l.extrinsics) (length l.work)
sized l = record { marks_sized = refl; margins_sized = refl; extrinsics_sized = refl; work_sized = refl }

pub run-requires-clause-checked : goal.run-requires-clause-checked
run-requires-clause-checked c =
    let l = lone_lent_of c.args.marks.now c.args.margins.now c.args.extrinsics.now c.args.work.now in
    ((c.takes-taken.ensures c.if-taken.true).1 l (sized l)).pass

pub run-requires-clause-work_len : goal.run-requires-clause-work_len
run-requires-clause-work_len c =
    let l = lone_lent_of c.args.marks.now c.args.margins.now c.args.extrinsics.now c.args.work.now in
    ((c.takes-taken.ensures c.if-taken.true).1 l (sized l)).work_long

pub run-requires-clause-marks_len : goal.run-requires-clause-marks_len
run-requires-clause-marks_len c =
    let l = lone_lent_of c.args.marks.now c.args.margins.now c.args.extrinsics.now c.args.work.now in
    ((c.takes-taken.ensures c.if-taken.true).1 l (sized l)).marks_long

pub run-requires-clause-margins_len : goal.run-requires-clause-margins_len
run-requires-clause-margins_len c =
    let l = lone_lent_of c.args.marks.now c.args.margins.now c.args.extrinsics.now c.args.work.now in
    ((c.takes-taken.ensures c.if-taken.true).1 l (sized l)).margins_long

pub run-requires-clause-extrinsics_len : goal.run-requires-clause-extrinsics_len
run-requires-clause-extrinsics_len c =
    let l = lone_lent_of c.args.marks.now c.args.margins.now c.args.extrinsics.now c.args.work.now in
    ((c.takes-taken.ensures c.if-taken.true).1 l (sized l)).extrinsics_long

pub returns-then-taken : goal.returns-then-taken
returns-then-taken c =
    let l = lone_lent_of c.args.marks.now c.args.margins.now c.args.extrinsics.now c.args.work.now in
    c.run.ensures ∙ decode_walked _ l (accepts _ l ((c.takes-taken.ensures c.if-taken.true).1 l (sized l)))
