use Rattle.integers.specs.laws.Linear.{plain}
use Rattle.metrics.proofs.Held.{inside_range}
use Rattle.metrics.proofs.position.is_best.Goals as goal

pub returns : goal.returns
returns c =
    let x = c.ranges.x in
    rw (c.contains.ensures.value, c.new.ensures.start, c.new.ensures.end, c.new.ensures.exhausted) (simp plain (inside_range c.args.x))
