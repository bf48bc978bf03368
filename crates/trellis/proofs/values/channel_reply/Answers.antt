use Rattle.std.proofs.Common.{◌∙◌, sym}
use Rattle.refusal.specs.Refusals.{first_of, check, ◌then◌}
use Rattle.trellis.specs.Limits.{channel_fits}
use Rattle.trellis.proofs.values.channel_reply.Goals as goal

pub returns-then-all_inside : goal.returns-then-all_inside
unfolding first_of check ◌then◌ channel_fits
returns-then-all_inside c = rw (sym c.all_inside.ensures ∙ c.if-all_inside.true)

pub returns : goal.returns
unfolding first_of check ◌then◌ channel_fits
returns c = rw (sym c.all_inside.ensures ∙ c.if-all_inside.false, c.first_outside.ensures)
