-- n is the number of ones in the masks of the first k positions.
-- Assumes nothing.
use Rattle.std.proofs.Common.{◌≡◌, ◌*◌, ◌≤◌}
use Rattle.frame.specs.Frame.{ones_to}
use Rattle.frame.proofs.masks.frame_length.Given as goal

abbrev pub invariant-loop-k : goal.invariant-loop-k
invariant-loop-k l = (l.n ≤ 8 * l.k) × (l.n ≡ ones_to l.masks l.k)
