-- So many iterations have run, none of them refused.
use Rattle.std.proofs.Common.{length, take}
use Rattle.decoder.specs.laws.Format.{format_of}
use Rattle.decoder.specs.laws.Running.{Running}
use Rattle.decoder.proofs.pass.iterate.Given as goal

abbrev pub invariant-loop : goal.invariant-loop
invariant-loop l =
    Running (format_of l.frame) l.frame.table.next l.frame.table.words l.frame.pattern l.channel1 l.channel2
    (take (length l.frame.pattern) l.initial.apriori) l.counter l.apriori l.marks1 l.marks2 l.margins
    l.extrinsics l.work
