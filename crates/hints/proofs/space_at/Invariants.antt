-- From i on the space is as far as from the start, less what was passed.
use Rattle.std.proofs.Common.{◌≡◌, ◌+◌, drop}
use Rattle.hints.specs.Hints.{space_at}
use Rattle.hints.proofs.space_at.Given as goal

abbrev pub invariant-loop-i : goal.invariant-loop-i
invariant-loop-i l = l.i + space_at (drop l.i l.text) ≡ space_at l.text
