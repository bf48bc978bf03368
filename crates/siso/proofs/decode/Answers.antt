use Rattle.std.specs.Prelude.{◌≡◌, refl, List, ℕ, ℤ, length, Ok}
use Rattle.std.proofs.Common.{sym, ◌∙◌}
use Rattle.refusal.specs.laws.Passing.{handed_on}
use Rattle.refusal.specs.Refusals.{first_of}
use Rattle.siso.specs.Decode.{Call, Lent, lent_checks}
use Rattle.siso.specs.Lent.{lone_lent_of}
use Rattle.siso.specs.laws.Accepted.{Accepted, accepted}
use Rattle.siso.specs.laws.Pass.{Sized}
use Rattle.siso.specs.laws.Settled.{decode_refused, decode_walked}
use Rattle.siso.proofs.decode.Goals as goal

-- the lists have the lengths that the checks look at
sized : (l : Lent) → Sized l (length l.marks) (length l.margins) (length l.extrinsics) (length l.work)
sized l = record { marks_sized = refl; margins_sized = refl; extrinsics_sized = refl; work_sized = refl }

pub returns-in_err-reply : goal.returns-in_err-reply
returns-in_err-reply c =
    let l = lone_lent_of c.args.marks.now c.args.margins.now c.args.extrinsics.now c.args.work.now in
    rw (handed_on c.from_residual.ensures.1) (decode_refused c.args.pass.now l _ (sym (c.in_err-reply.ensures l (sized l))))

-- what the checks accepted
taken :
    {c : Call} {ms : List ℕ} {gs es ws : List ℤ}
    → ((l : Lent) → Sized l (length ms) (length gs) (length es) (length ws) → Ok tt ≡ first_of (lent_checks c l))
    → Accepted c (lone_lent_of ms gs es ws)
taken {c} {ms} {gs} {es} {ws} h = let l = lone_lent_of ms gs es ws in accepted c l (sym (h l (sized l)))

pub invariant_of-accepted : goal.invariant_of-accepted
invariant_of-accepted c = (taken c.in_ok-reply.ensures).pass

pub run-requires-clause-work_len : goal.run-requires-clause-work_len
run-requires-clause-work_len c = (taken c.in_ok-reply.ensures).work_long

pub run-requires-clause-marks_len : goal.run-requires-clause-marks_len
run-requires-clause-marks_len c = (taken c.in_ok-reply.ensures).marks_long

pub run-requires-clause-margins_len : goal.run-requires-clause-margins_len
run-requires-clause-margins_len c = (taken c.in_ok-reply.ensures).margins_long

pub run-requires-clause-extrinsics_len : goal.run-requires-clause-extrinsics_len
run-requires-clause-extrinsics_len c = (taken c.in_ok-reply.ensures).extrinsics_long

pub returns : goal.returns
returns c =
    let l = lone_lent_of c.args.marks.now c.args.margins.now c.args.extrinsics.now c.args.work.now in
    c.run.ensures ∙ decode_walked _ l (sym (c.in_ok-reply.ensures l (sized l)))
