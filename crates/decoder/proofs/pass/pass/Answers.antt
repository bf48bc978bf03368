use Rattle.std.proofs.Common.{◌∙◌, ◌+◌, length, length-take-le}
use Rattle.frame.specs.Frame.{tail_of}
use Rattle.decoder.specs.laws.Passing.{passed}
use Rattle.decoder.proofs.pass.pass.Goals as goal

pub returns : goal.returns
returns c =
    let a = c.args in
    let f = c.frame.inside in
    let n = length f.pattern.now + tail_of a.end f.format.tail in
    let may = rw (← c.frame.view_is) at c.requires in
    rw (c.tail_of.ensures, ← c.frame.view_is)
    (passed f.next.now f.words.now a.end n a.channel.now a.apriori.now a.marks.now a.margins.now a.extrinsics.now a.work.now may _ _ _ _ _
    ((rw c.tail_of.ensures at c.decode.auto.marks) ∙ length-take-le _ _ may.marks_room)
    ((rw c.tail_of.ensures at c.decode.auto.margins) ∙ length-take-le _ _ may.margins_room)
    ((rw c.tail_of.ensures at c.decode.auto.extrinsics) ∙ length-take-le _ _ may.extrinsics_room)
    (rw c.tail_of.ensures at c.decode.ensures))
