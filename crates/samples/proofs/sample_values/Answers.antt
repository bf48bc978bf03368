-- A call that a check refuses leaves the list as it was, and any other writes the value of every sample.
-- Assumes nothing.
use Rattle.samples.proofs.Writing.{refused, ready, done}
use Rattle.samples.proofs.sample_values.Goals as goal

pub returns-in_err-sample_reply : goal.returns-in_err-sample_reply
returns-in_err-sample_reply c = refused _ _ _ c.in_err-sample_reply.ensures c.from_residual.ensures.1

pub fill-requires : goal.fill-requires
fill-requires c = ready _ _ _ c.in_ok-sample_reply.ensures c.reliability.ensures

pub returns : goal.returns
returns c = done _ _ _ c.in_ok-sample_reply.ensures c.reliability.ensures c.fill.ensures
