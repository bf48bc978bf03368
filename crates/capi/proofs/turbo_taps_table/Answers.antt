use Rattle.std.proofs.Common.{ap, ◌∙◌}
use Rattle.capi.specs.Returned.{taps_returned}
use Rattle.capi.specs.laws.Returning.{same_number}
use Rattle.capi.proofs.turbo_taps_table.Goals as goal

pub returns : goal.returns
returns c = same_number c.number_of.ensures ∙ ap taps_returned c.taps_table.ensures
