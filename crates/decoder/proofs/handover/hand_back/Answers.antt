use Rattle.std.proofs.Common.{pos}
use Rattle.decoder.proofs.handover.hand_back.Goals as goal

pub returns : goal.returns
returns c = c.deinterleave.ensures (pos 0) (pos 0) c.requires.permutes c.requires.xs_len c.requires.out_len
