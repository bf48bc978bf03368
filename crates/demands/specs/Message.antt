-- Demand 2's condition on what is received of a coded frame.
-- Assumes nothing.
use Rattle.std.specs.Prelude.{◌≢◌, List, ℕ, ◌*◌, ◌<◌, ℤ, pos, ◌≤ℤ◌, length, get_or}
use Rattle.trellis.specs.Path.{signed}
use Rattle.frame.specs.Frame.{Frame, flags, spread}

-- each received value has the sign of its sent bit or is zero, and in the frame spread out every systematic value of the message is nonzero
pub record IsRightSigned (f : Frame) (sent : List ℕ) (received : List ℤ) : Type 0 where
  pub signs : (i : ℕ) → i < length sent → pos 0 ≤ℤ signed (get_or sent i 0) (get_or received i (pos 0))
  pub told : (k : ℕ) → k < f.bits → get_or (spread (pos 0) (flags f) received) (3 * k) (pos 0) ≢ pos 0
