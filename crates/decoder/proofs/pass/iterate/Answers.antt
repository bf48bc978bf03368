use Rattle.std.proofs.Common.{arith}
use Rattle.decoder.proofs.laws.Running.{running_none, running_prior, running_more, ended_late}
use Rattle.decoder.proofs.pass.iterate.Goals as goal

pub loop-init : goal.loop-init
loop-init c = running_none _ _ _ _ _ c.requires.prior c.requires.fitting.zeros

pub iteration-requires-clause-prior : goal.iteration-requires-clause-prior
iteration-requires-clause-prior c = running_prior c.requires.fitting.permutes c.requires.prior c.loop.invariant

pub loop-preserved : goal.loop-preserved
loop-preserved c = running_more c.requires.fitting.permutes c.requires.prior c.loop.invariant (c.in_ok-iteration.was) c.iteration.ensures

pub returns : goal.returns
returns c = ended_late c.requires.iterations_nonzero (omega arith) c.loop.invariant
