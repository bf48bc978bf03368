use borrow.Author.Tests.{le-leb, lt-leb, eq-eqb, ne_eqb}
use Rattle.decoder.specs.laws.Gathering.{place_of}
use Rattle.decoder.proofs.channel.Layout.place_of.Goals as goal

pub returns-then-second : goal.returns-then-second
unfolding place_of
returns-then-second c = rw (le-leb _ _ c.if-bits-i.true, c.if-second.true)

pub returns-else-second : goal.returns-else-second
unfolding place_of
returns-else-second c = rw (le-leb _ _ c.if-bits-i.true, c.if-second.false)

pub returns-in-true-eq1 : goal.returns-in-true-eq1
unfolding place_of
returns-in-true-eq1 c = rw (lt-leb _ _ c.if-bits-i.false, c.in-true-eq1.is-0, eq-eqb _ _ c.in-true-eq1.is-1)

pub returns-in-true-default : goal.returns-in-true-default
unfolding place_of
returns-in-true-default c = rw (lt-leb _ _ c.if-bits-i.false, c.in-true-default.is-0, ne_eqb _ _ c.in-true-default.is-1.1)

pub returns-in-false-default : goal.returns-in-false-default
unfolding place_of
returns-in-false-default c = rw (lt-leb _ _ c.if-bits-i.false, c.in-false-default.is-0)
