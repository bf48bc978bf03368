use native.Mathlib.Omega.{arith}
use Prim.Native.Nat.{◌+◌, ◌<◌}
use lib.IntN.{pos}
use lib.ListN.{get_or}
use mir.Facts.{to_z-of_z}
use Rattle.butterfly.proofs.Sums.{stands}
use Rattle.butterfly.proofs.step.through_at.Goals as goal

pub through-requires-clause-f_value : goal.through-requires-clause-f_value
through-requires-clause-f_value c p =
    let (full, x-there, y-there) = c.requires.reached p in
    let half = c.args.half in
    let near : c.args.i < half + half = omega (arith, c.requires.i_lt_half) in
    let far : c.args.i + half < half + half = omega (arith, c.requires.i_lt_half) in (
      stands (get_or c.args.work.now (c.args.at + c.args.i) (pos 0)) (omega arith) (full.there _ near) (c.requires.held.small _ near),
      rw (to_z-of_z c.ranges.x) x-there,
      stands (get_or c.args.work.now (c.args.at + (c.args.i + half)) (pos 0)) (omega arith) (full.there _ far) (c.requires.held.small _ far),
      rw (to_z-of_z c.ranges.y) y-there,
    )
