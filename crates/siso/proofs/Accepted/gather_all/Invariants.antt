use Rattle.std.specs.Prelude.{◌≡◌, false}
use Rattle.siso.specs.laws.Pass.{Stage, ListsKept}
use Rattle.siso.proofs.Accepted.gather_all.Given as goal

-- the starts so far: whether one has a path, and what they leave
abbrev pub invariant-loop-start : goal.invariant-loop-start
invariant-loop-start l = record {
  stage : Stage l.self.table l.self.values l.self.end l.self.sections l.start l.any l.marks l.margins l.extrinsics;
  kept : l.any ≡ false → ListsKept l.fn.marks l.fn.margins l.fn.extrinsics l.marks l.margins l.extrinsics;
}
