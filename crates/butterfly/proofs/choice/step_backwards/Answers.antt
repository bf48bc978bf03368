use native.Mathlib.Omega.{arith}
use mathlib.Core.Path.{◌≡◌}
use Rattle.butterfly.specs.laws.Metrics.{wings_same}
use Rattle.butterfly.proofs.Signs.{house_signs_lem, gpp_signs_lem}
use Rattle.butterfly.proofs.choice.step_backwards.Goals as goal

pub backwards-requires-then-kind-clause-signed_by : goal.backwards-requires-then-kind-clause-signed_by
backwards-requires-then-kind-clause-signed_by c = house_signs_lem

pub backwards-requires-then-kind-2-clause-signed_by : goal.backwards-requires-then-kind-2-clause-signed_by
backwards-requires-then-kind-2-clause-signed_by c = gpp_signs_lem

pub returns-then-kind : goal.returns-then-kind
returns-then-kind c target branch-metric wings =
    let (e, same) = c.requires.known.house_is c.if-kind.true in
    rw e (c.backwards-then-kind.ensures target branch-metric (wings_same same (rw e at wings)))

pub returns-then-kind-2 : goal.returns-then-kind-2
returns-then-kind-2 c target branch-metric wings =
    let (e, same) = c.requires.known.gpp_is c.if-kind-2.true in
    rw e (c.backwards-then-kind-2.ensures target branch-metric (wings_same same (rw e at wings)))

pub returns-in-2 : goal.returns-in-2
returns-in-2 c target branch-metric wings =
    let e : c.args.kind.half ≡ 2 = c.in-2.is in
    rw e (c.backwards-in-2.ensures target branch-metric (rw e at wings))

pub returns-in-4 : goal.returns-in-4
returns-in-4 c target branch-metric wings =
    let e : c.args.kind.half ≡ 4 = c.in-4.is in
    rw e (c.backwards-in-4.ensures target branch-metric (rw e at wings))

pub returns-in_default : goal.returns-in_default
returns-in_default c target branch-metric wings =
    let e : c.args.kind.half ≡ 8 = c.requires.known.else_eight (λ h. omega arith) (λ h. omega arith) in
    rw e (c.backwards-in_default.ensures target branch-metric (rw e at wings))
