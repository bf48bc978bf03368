use Rattle.std.specs.Prelude.{◌≡◌, pos, get_or}
use Rattle.trellis.specs.Path.{word_metric}
use Rattle.siso.proofs.section.word_metric.Given as goal

-- so far the part of the first l outputs
abbrev pub invariant-loop-l : goal.invariant-loop-l
invariant-loop-l l = l.g ≡ word_metric (λ i. get_or l.fn.ys i (pos 0)) l.word l.l
