use Rattle.std.specs.Prelude.{pos, get_or}
use Rattle.std.proofs.Common.{sym, ◌∙◌, SFits, to_z-of_z}
use Rattle.std.specs.Int.{w32}
use Rattle.integers.specs.laws.Linear.{fits_of}
use Rattle.siso.proofs.Parts.{value_fits}
use Rattle.siso.proofs.Words.{word_start, word_more, part_within}
use Rattle.siso.proofs.section.word_metric.Goals as goal

pub loop-l-init : goal.loop-l-init
loop-l-init c = sym (word_start c.args.ys c.args.word)

pub with_output-g-requires-clause-within : goal.with_output-g-requires-clause-within
with_output-g-requires-clause-within c =
    rw c.loop-l.invariant (part_within c.args.ys c.args.word c.loop-l.l c.requires c.loop-l-test.true)

pub loop-l-preserved : goal.loop-l-preserved
loop-l-preserved c =
    let y : SFits w32 (get_or c.args.ys c.loop-l.l (pos 0)) = value_fits (c.requires c.loop-l.l) in
    to_z-of_z {w = w32} (fits_of c.with_output-g.type_inv)
    ∙ (rw (to_z-of_z y, c.loop-l.invariant) at c.with_output-g.ensures)
    ∙ sym (word_more c.args.ys c.args.word c.loop-l.l)
