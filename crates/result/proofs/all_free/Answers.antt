use Rattle.std.proofs.Common.{rules}
use Rattle.result.proofs.Fitting.{marks_free}
use Rattle.result.proofs.all_free.Goals as goal

pub returns : goal.returns
returns c = marks_free c.all.result c.args.marks.now (search rules)
