-- 2 where a number stands for no end, and else the frame decoder's own, with the reply told as a number and an index.
use Rattle.std.proofs.Common.{sym, ap, ◌∙◌}
use Rattle.refusal.specs.Refusals.{told, number_of, place_of}
use Rattle.capi.specs.Returned.{for_ending, decode_returned}
use Rattle.capi.specs.laws.Returning.{same_index}
use Rattle.capi.proofs.turbo_decode.Goals as goal

pub returns-in_default : goal.returns-in_default
unfolding for_ending number_of place_of told
returns-in_default c = rw (sym c.end_of.ensures ∙ c.in_default.is) (same_index c.tell.ensures.value c.tell.ensures.index_after)

pub returns-in_default-end_of : goal.returns-in_default-end_of
unfolding for_ending number_of place_of told
returns-in_default-end_of c =
    rw (sym c.end_of.ensures ∙ c.in-Some.is, sym c.end_of-2.ensures ∙ c.in_default-end_of.is)
    (same_index c.tell-in_default-end_of.ensures.value c.tell-in_default-end_of.ensures.index_after)

pub returns : goal.returns
unfolding for_ending
returns c =
    rw (sym c.end_of.ensures ∙ c.in-Some.is, sym c.end_of-2.ensures ∙ c.in-Some-end_of.is)
    (same_index c.tell-2.ensures.value c.tell-2.ensures.index_after ∙ ap decode_returned (rw c.frame_format.ensures at c.decode-reply.ensures))
