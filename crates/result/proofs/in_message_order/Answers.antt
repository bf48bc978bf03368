use Rattle.std.proofs.Common.{rules}
use Rattle.result.proofs.Fitting.{in_place}
use Rattle.result.proofs.in_message_order.Goals as goal

-- what the call says is searched for, so that no answer goes by the call's name
pub returns : goal.returns
returns c = in_place _ _ _ _ (search rules) c.requires.permutes c.requires.xs_len c.requires.out_len
