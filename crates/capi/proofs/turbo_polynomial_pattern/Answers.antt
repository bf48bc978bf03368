use Rattle.std.proofs.Common.{ap, ◌∙◌}
use Rattle.capi.specs.Returned.{pattern_returned}
use Rattle.capi.specs.laws.Returning.{same_number}
use Rattle.capi.proofs.turbo_polynomial_pattern.Goals as goal

pub returns : goal.returns
returns c = same_number c.number_of.ensures ∙ ap pattern_returned c.polynomial_pattern.ensures
