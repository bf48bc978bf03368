-- 2 where the number stands for no end, and else the lone decoder's own, with the reply told as a number and an index.
use Rattle.std.proofs.Common.{sym, ap, ◌∙◌}
use Rattle.refusal.specs.Refusals.{told, number_of, place_of}
use Rattle.capi.specs.Returned.{for_ending, lone_returned}
use Rattle.capi.specs.laws.Returning.{same_index}
use Rattle.capi.proofs.turbo_lone_decode.Goals as goal

pub returns-in_default : goal.returns-in_default
unfolding for_ending number_of place_of told
returns-in_default c = rw (sym c.end_of.ensures ∙ c.in_default.is) (same_index c.tell.ensures.value c.tell.ensures.index_after)

pub returns : goal.returns
unfolding for_ending
returns c = rw (sym c.end_of.ensures ∙ c.in-Some.is) (same_index c.tell-2.ensures.value c.tell-2.ensures.index_after ∙ ap lone_returned c.decode.ensures)
