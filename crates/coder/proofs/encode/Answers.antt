use Rattle.std.proofs.Common.{sym, ◌∙◌}
use Rattle.refusal.specs.laws.Passing.{handed_on}
use Rattle.coder.specs.laws.Encoded.{codable, encode_coded, encode_refused}
use Rattle.coder.specs.laws.Ready.{ready}
use Rattle.coder.proofs.encode.Goals as goal

pub returns-in_err-encode_reply : goal.returns-in_err-encode_reply
returns-in_err-encode_reply c = rw (handed_on c.from_residual.ensures.1) (encode_refused _ _ _ (sym c.in_err-encode_reply.ensures))

pub run-requires-clause-codable : goal.run-requires-clause-codable
run-requires-clause-codable c = codable _ _ (sym c.in_ok-encode_reply.ensures)

pub run-requires-clause-ready : goal.run-requires-clause-ready
run-requires-clause-ready c = ready _ _ _ (codable _ _ (sym c.in_ok-encode_reply.ensures))

pub returns : goal.returns
returns c = c.run.ensures ∙ encode_coded _ _ (sym c.in_ok-encode_reply.ensures)
