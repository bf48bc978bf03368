use Rattle.butterfly.specs.laws.Metrics.{wings_same}
use Rattle.butterfly.proofs.Signs.{house_signs_lem, gpp_signs_lem}
use Rattle.butterfly.proofs.choice.step_forwards.Goals as goal

pub saved_forwards-requires-then-kind-clause-signed_by : goal.saved_forwards-requires-then-kind-clause-signed_by
saved_forwards-requires-then-kind-clause-signed_by c = house_signs_lem

pub saved_forwards-requires-then-kind-2-clause-signed_by : goal.saved_forwards-requires-then-kind-2-clause-signed_by
saved_forwards-requires-then-kind-2-clause-signed_by c = gpp_signs_lem

pub returns-then-kind-clause-by_index : goal.returns-then-kind-clause-by_index
returns-then-kind-clause-by_index c target branch-metric wings =
    let (e, same) = c.requires.known.house_is c.if-kind.true in
    rw e (c.saved_forwards-then-kind.ensures.by_index target branch-metric (wings_same same (rw e at wings)))

pub returns-then-kind-2-clause-by_index : goal.returns-then-kind-2-clause-by_index
returns-then-kind-2-clause-by_index c target branch-metric wings =
    let (e, same) = c.requires.known.gpp_is c.if-kind-2.true in
    rw e (c.saved_forwards-then-kind-2.ensures.by_index target branch-metric (wings_same same (rw e at wings)))
