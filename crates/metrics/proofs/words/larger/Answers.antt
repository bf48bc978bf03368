use Rattle.integers.specs.Integers.{max_ℤ}
use Rattle.integers.specs.laws.Linear.{plain}
use Rattle.metrics.specs.laws.Held.{held_larger}
use Rattle.metrics.proofs.words.larger.Goals as goal

pub returns-then-a-b : goal.returns-then-a-b
unfolding max_ℤ
returns-then-a-b c =
    let a-fits = c.ranges.a in
    let b-fits = c.ranges.b in
    let test = simp plain at c.if-a-b.true in
    simp plain (rw test at (held_larger c.args.a c.args.b a-fits b-fits))

pub returns-else-a-b : goal.returns-else-a-b
unfolding max_ℤ
returns-else-a-b c =
    let a-fits = c.ranges.a in
    let b-fits = c.ranges.b in
    let test = simp plain at c.if-a-b.false in
    simp plain (rw test at (held_larger c.args.a c.args.b a-fits b-fits))
