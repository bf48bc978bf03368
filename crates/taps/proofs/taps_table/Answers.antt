-- A call that the checks refuse leaves both lists as they were, and any other is built.
-- Assumes nothing.
use Rattle.taps.proofs.Building.{refused, passed}
use Rattle.taps.proofs.taps_table.Goals as goal

pub returns-in_err-taps_reply : goal.returns-in_err-taps_reply
returns-in_err-taps_reply c = refused _ _ c.in_err-taps_reply.ensures c.from_residual.ensures.1

pub invariant_of-register : goal.invariant_of-register
invariant_of-register c = record { few = (passed _ _ c.in_ok-taps_reply.ensures c.word_count-states.ensures).few }

pub fill-requires-clause-next_len : goal.fill-requires-clause-next_len
fill-requires-clause-next_len c = (passed _ _ c.in_ok-taps_reply.ensures c.word_count-states.ensures).next_long

pub fill-requires-clause-words_len : goal.fill-requires-clause-words_len
fill-requires-clause-words_len c = (passed _ _ c.in_ok-taps_reply.ensures c.word_count-states.ensures).words_long

pub returns : goal.returns
returns c = (passed _ _ c.in_ok-taps_reply.ensures c.word_count-states.ensures).done _ _ c.fill.ensures
