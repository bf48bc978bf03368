use Rattle.std.proofs.Common.{refl, add-zero}
use Rattle.coder.specs.laws.Tails.{tail_boundary, tail_away, tail_low, tail_high}
use Rattle.coder.proofs.tail.+tail_from.Goals as goal

pub returns-then-s-eq0 : goal.returns-then-s-eq0
returns-then-s-eq0 t c = tail_boundary _ _ _ c.if-left-eq0.true c.if-s-eq0.true

pub returns-else-s-eq0 : goal.returns-else-s-eq0
returns-else-s-eq0 t c = tail_away _ _ _ c.if-left-eq0.true c.if-s-eq0.false

pub returns-in-Some : goal.returns-in-Some
returns-in-Some t c = tail_low _ _ c.if-left-eq0.false c.target.ensures c.in-Some.ensures refl (simp add-zero)

pub returns-in_err-rest : goal.returns-in_err-rest
returns-in_err-rest t c =
    rw c.from_residual.ensures
    (tail_high _ _ c.if-left-eq0.false c.target.ensures c.in_default.ensures refl c.target-2.ensures c.in_err-rest.ensures refl)

pub returns : goal.returns
returns t c = tail_high _ _ c.if-left-eq0.false c.target.ensures c.in_default.ensures refl c.target-2.ensures c.in_ok-rest.ensures refl
