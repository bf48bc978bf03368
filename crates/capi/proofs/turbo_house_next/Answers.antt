use Rattle.std.proofs.Common.{◌∙◌}
use Rattle.capi.specs.laws.Returning.{same_number, same_entries}
use Rattle.capi.proofs.turbo_house_next.Goals as goal

pub returns : goal.returns
returns c = same_number c.number_of.ensures ∙ c.write.ensures ∙ same_entries _ c.house_next.ensures
