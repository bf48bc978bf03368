-- The part that was lent lies behind what stands there already.
-- Assumes nothing.
use Rattle.std.proofs.Common.{rules, subst, sym, arith}
use Rattle.std.specs.Io.KnownBytes.{Consumes}
use Rattle.receiver.proofs.Reading.{part_read}
use Rattle.receiver.proofs.input.read_on.Goals as goal

pub returns-clause-bytes : goal.returns-clause-bytes
returns-clause-bytes g c =
    let is = part_read c.args.from _ c.in_ok-count.count c.args.buf.now c.read.new.buf (search rules) (search rules) in
    (subst (Consumes _ _) (sym is) c.in_ok-count.ensures.bytes.0, λ none some. c.in_ok-count.ensures.bytes.1 (omega (arith, none)) (search rules))
