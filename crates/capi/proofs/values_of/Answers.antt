use Rattle.std.proofs.Common.{ap, ◌∙◌}
use Rattle.capi.specs.Returned.{samples_returned}
use Rattle.capi.specs.laws.Returning.{same_number}
use Rattle.capi.proofs.values_of.Goals as goal

pub returns : goal.returns
returns c = same_number c.number_of.ensures ∙ ap samples_returned c.sample_values.ensures
