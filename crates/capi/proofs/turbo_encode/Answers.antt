-- 2 where a number stands for no end, and else the coder's own, with the reply told as a number.
use Rattle.std.proofs.Common.{sym, ap, ◌∙◌}
use Rattle.refusal.specs.Refusals.{told}
use Rattle.capi.specs.Returned.{for_ending, encode_returned}
use Rattle.capi.specs.laws.Returning.{same_number}
use Rattle.capi.proofs.turbo_encode.Goals as goal

pub returns-in_default : goal.returns-in_default
unfolding for_ending told
returns-in_default c = rw (sym c.end_of.ensures ∙ c.in_default.is) (same_number c.number.ensures)

pub returns-in_default-end_of : goal.returns-in_default-end_of
unfolding for_ending told
returns-in_default-end_of c = rw (sym c.end_of.ensures ∙ c.in-Some.is, sym c.end_of-2.ensures ∙ c.in_default-end_of.is) (same_number c.number-in_default-end_of.ensures)

pub returns : goal.returns
unfolding for_ending
returns c =
    rw (sym c.end_of.ensures ∙ c.in-Some.is, sym c.end_of-2.ensures ∙ c.in-Some-end_of.is)
    (same_number c.number_of.ensures ∙ ap encode_returned (rw c.frame_format.ensures at c.encode.ensures))
