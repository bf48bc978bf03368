use Rattle.std.proofs.Common.{◌∙◌, sym}
use Rattle.refusal.specs.Refusals.{first_of, check, ◌then◌}
use Rattle.trellis.specs.Limits.{apriori_fits}
use Rattle.trellis.proofs.values.apriori_reply.Goals as goal

pub returns-then-all_inside : goal.returns-then-all_inside
unfolding first_of check ◌then◌ apriori_fits
returns-then-all_inside c = rw (sym c.all_inside.ensures ∙ c.if-all_inside.true)

pub returns : goal.returns
unfolding first_of check ◌then◌ apriori_fits
returns c = rw (sym c.all_inside.ensures ∙ c.if-all_inside.false, c.first_outside.ensures)
