use Rattle.std.proofs.Common.{refl, ◌∙◌}
use Rattle.refusal.specs.laws.Passing.{handed_on}
use Rattle.decoder.proofs.Concluded.{ended_concluded}
use Rattle.decoder.proofs.laws.Finishing.{finished_early}
use Rattle.decoder.proofs.laws.Running.{zeros_front, zeros_prior}
use Rattle.decoder.proofs.run.passes.Goals as goal

pub iterate-requires-clause-prior : goal.iterate-requires-clause-prior
iterate-requires-clause-prior c = zeros_prior _ c.requires.few_bits c.blank-apriori.ensures.values

pub returns-in_err-iterate : goal.returns-in_err-iterate
returns-in_err-iterate c =
    rw (handed_on c.from_residual.ensures.1)
    (finished_early (rw (zeros_front _ c.requires.few_bits c.blank-apriori.ensures.values) at c.in_err-iterate.ensures) _ _ _ refl)

pub returns : goal.returns
returns c =
    let few = rw (← c.frame.view_is) at c.requires.few_bits in
    rw (← c.frame.view_is)
    (ended_concluded c.frame.inside.pattern.now (rw (← c.frame.view_is) at c.requires.fitting.permuting) few
    (c.iterate.auto.marks1 ∙ c.blank-marks1.ensures.len) (c.iterate.auto.marks2 ∙ c.blank-marks2.ensures.len)
    (c.iterate.auto.margins ∙ c.blank-margins2.ensures.len) (c.iterate.auto.extrinsics ∙ c.blank-extrinsics2.ensures.len)
    (rw (← c.frame.view_is) at c.requires.bits_len) (rw (← c.frame.view_is) at c.requires.margins_len) (rw (← c.frame.view_is) at c.requires.extrinsics_len)
    (rw (← c.frame.view_is) at (rw (zeros_front _ c.requires.few_bits c.blank-apriori.ensures.values) at c.in_ok-iterate.ensures)) c.conclude.ensures)
