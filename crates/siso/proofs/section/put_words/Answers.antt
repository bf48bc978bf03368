use Rattle.std.specs.Prelude.{ℤ, pos}
use Rattle.std.proofs.Common.{◌∙◌, arith, to_z-of_z}
use Rattle.std.specs.Int.{w32}
use Rattle.integers.specs.laws.Linear.{fits_of}
use Rattle.siso.proofs.Rows.{one_more}
use Rattle.siso.proofs.section.put_words.Goals as goal

pub loop-w-preserved : goal.loop-w-preserved
loop-w-preserved c =
    one_more (λ (z : ℤ). z) c.loop-w.g c.loop-w.w _ (pos 0) (omega arith) c.loop-w.invariant
    (to_z-of_z {w = w32} (fits_of c.word_metric.type_inv) ∙ c.word_metric.ensures)
