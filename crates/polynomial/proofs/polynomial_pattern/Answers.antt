-- A call that a check refuses leaves the list as it was, and any other writes the entries.
-- Assumes nothing.
use Rattle.std.proofs.Common.{rules}
use Rattle.polynomial.proofs.Building.{refused, passed, no_pattern, done}
use Rattle.polynomial.proofs.polynomial_pattern.Goals as goal

pub returns-in_err-sizes_reply : goal.returns-in_err-sizes_reply
returns-in_err-sizes_reply c = refused _ _ c.in_err-sizes_reply.ensures c.from_residual.ensures.1

pub invariant_of-polynomial : goal.invariant_of-polynomial
invariant_of-polynomial c = record { small = (passed _ c.args.pattern.now c.in_ok-sizes_reply.ensures).small }

pub returns-then-not-is_pattern : goal.returns-then-not-is_pattern
returns-then-not-is_pattern c = no_pattern _ _ c.in_ok-sizes_reply.ensures (search rules)

pub fill-requires : goal.fill-requires
fill-requires c = (passed _ c.args.pattern.now c.in_ok-sizes_reply.ensures).long

pub returns : goal.returns
returns c = done _ _ c.in_ok-sizes_reply.ensures (search rules) c.fill.ensures
