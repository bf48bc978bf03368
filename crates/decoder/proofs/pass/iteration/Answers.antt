use Rattle.std.proofs.Common.{refl}
use Rattle.refusal.specs.laws.Passing.{handed_on}
use Rattle.decoder.proofs.Iterated.{refused_first, refused_second, second_may, both_ran}
use Rattle.decoder.proofs.laws.Handing.{first_passing_at}
use Rattle.decoder.proofs.pass.iteration.Goals as goal

pub pass-requires : goal.pass-requires
pass-requires c =
    rw (← c.frame.view_is) (first_passing_at (rw (← c.frame.view_is) at c.requires.fitting) (rw (← c.frame.view_is) at c.requires.prior) _ refl)

pub returns-in_err-pass : goal.returns-in_err-pass
returns-in_err-pass c = rw (handed_on c.from_residual.ensures.1, ← c.frame.view_is) (refused_first (rw (← c.frame.view_is) at c.in_err-pass.ensures))

pub pass-requires-2 : goal.pass-requires-2
pass-requires-2 c =
    rw (← c.frame.view_is)
    (second_may (rw (← c.frame.view_is) at c.requires.fitting) (rw (← c.frame.view_is) at c.requires.prior) (rw (← c.frame.view_is) at c.in_ok-pass.ensures)
    c.hand_on.ensures c.pass.auto.margins c.pass.auto.extrinsics c.pass.auto.work)

pub returns-in_err-pass-2 : goal.returns-in_err-pass-2
returns-in_err-pass-2 c =
    rw (handed_on c.from_residual-in_err-pass-2.ensures.1, ← c.frame.view_is)
    (refused_second (rw (← c.frame.view_is) at c.in_ok-pass.ensures) (rw (← c.frame.view_is) at c.in_err-pass-2.ensures))

pub returns : goal.returns
returns c =
    rw (← c.frame.view_is)
    (both_ran (rw (← c.frame.view_is) at c.requires.fitting) (rw (← c.frame.view_is) at c.requires.prior) (rw (← c.frame.view_is) at c.in_ok-pass.ensures)
    c.hand_on.ensures (rw (← c.frame.view_is) at c.in_ok-pass-2.ensures) c.hand_back.ensures)
