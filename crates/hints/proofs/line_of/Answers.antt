use Rattle.std.proofs.Common.{◌≡◌, take, count_by, eqb, arith, rules}
use Rattle.hints.specs.Hints.{line_of}
use Rattle.hints.proofs.Finding.{feeds_counted}
use Rattle.hints.proofs.line_of.Goals as goal

pub returns : goal.returns
unfolding line_of
returns c =
    let front = take c.args.at c.args.text.now in
    let feeds : c.count.result ≡ count_by (λ b. eqb b 10) front = search rules in
    omega (arith, feeds, feeds_counted front)
