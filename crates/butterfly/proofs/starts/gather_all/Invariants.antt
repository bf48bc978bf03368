use Rattle.std.proofs.Common.{◌≡◌, false}
use Rattle.trellis.specs.Table.{Table}
use Rattle.siso.specs.Lent.{values_of}
use Rattle.butterfly.specs.laws.Flights.{Winged, Stage}
use Rattle.butterfly.proofs.starts.gather_all.Given as goal

-- the lists are at this state's stage, and as they were until one has a path
abbrev pub invariant-loop-start : goal.invariant-loop-start
invariant-loop-start l = record {
  stage : (t : Table) → Winged t l.course.sections (values_of l.course.channel.now l.course.apriori.now) l.course.kind.half l.course.signs.now
      → Stage t (values_of l.course.channel.now l.course.apriori.now) l.end l.course.sections l.start l.any l.margins l.extrinsics;
  unchanged : l.any ≡ false → (l.margins ≡ l.initial.margins) × (l.extrinsics ≡ l.initial.extrinsics);
}
