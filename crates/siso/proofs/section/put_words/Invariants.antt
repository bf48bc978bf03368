use Rattle.std.specs.Prelude.{◌≡◌, ℕ, ◌<◌, pos, get_or}
use Rattle.trellis.specs.Path.{word_metric}
use Rattle.siso.proofs.section.put_words.Given as goal

-- the words below w have their metrics
abbrev pub invariant-loop-w : goal.invariant-loop-w
invariant-loop-w l = (i : ℕ) → i < l.w → get_or l.g i (pos 0) ≡ word_metric (λ j. get_or l.ys j (pos 0)) i 4
