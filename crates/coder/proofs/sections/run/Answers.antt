use Rattle.coder.proofs.Sent.{no_path1, no_path2, sent_by}
use Rattle.coder.proofs.sections.run.Goals as goal

pub returns-then-not-code : goal.returns-then-not-code
returns-then-not-code c =
    rw (← c.frame.view_is) (no_path1 _ _ _ (rw (← c.frame.view_is) at c.requires.codable) c.code.ensures c.if-not-code.true)

pub returns-then-not-code_interleaved : goal.returns-then-not-code_interleaved
returns-then-not-code_interleaved c =
    rw (← c.frame.view_is) (no_path2 _ _ _ (rw (← c.frame.view_is) at c.requires.codable) c.code_interleaved.ensures c.if-not-code_interleaved.true)

pub returns : goal.returns
returns c =
    rw (← c.frame.view_is)
    (sent_by _ _ _ (rw (← c.frame.view_is) at c.requires.codable) c.code.ensures c.if-not-code.false c.code_interleaved.ensures
    c.if-not-code_interleaved.false c.tail_of-tail1.ensures c.tail_of-tail2.ensures c.puncture.ensures)
