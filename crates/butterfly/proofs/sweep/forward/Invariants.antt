use Rattle.butterfly.specs.laws.Flights.{Forwarded}
use Rattle.butterfly.proofs.sweep.forward.Given as goal

-- the metrics are the row before section k, and the working list has the rows before it, of every table with these wings
abbrev pub invariant-loop-k : goal.invariant-loop-k
invariant-loop-k l = Forwarded l.kind l.signs l.channel l.apriori l.from l.k l.initial.m l.m l.initial.work l.work
