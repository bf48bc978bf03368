use Rattle.std.proofs.Common.{[], ◌≡◌, ◌++◌, List, ℕ, pos, ap, ◌∙◌, get_or, length, arith, rules, FitsSigned, to_z-of_z}
use Rattle.std.specs.Int.{w32}
use Rattle.text.specs.Text.{bytes}
use Rattle.lists.specs.Lists.{joined}
use Rattle.decoder.specs.Lent.{decode_lent_of}
use Rattle.sheet.specs.laws.Printing.{line_text, page_to, page_more, page_all, pasted_wrote}
use Rattle.sheet.proofs.print.put_result.Goals as goal

pub loop-k-init : goal.loop-k-init
unfolding page_to bytes joined
loop-k-init c =
    let header = pasted_wrote 24 (omega arith) (omega arith) c.put-at.ensures in
    (omega (arith, header.few), header.is)

pub loop-k-preserved : goal.loop-k-preserved
loop-k-preserved c =
    let l = decode_lent_of c.args.bits.now c.args.margins.now c.args.extrinsics.now [] in
    let k = c.loop-k.k in
    let margin_fits : FitsSigned w32 (get_or l.margins k (pos 0)) = search rules in
    let extrinsic_fits : FitsSigned w32 (get_or l.extrinsics k (pos 0)) = search rules in
    let line = rw (to_z-of_z margin_fits, to_z-of_z extrinsic_fits) at c.put_line-at.ensures in (
      omega (arith, line.few),
      line.is
          ∙ ap (λ (t : List ℕ). t ++ line_text k (get_or l.bits k 0) (get_or l.margins k (pos 0)) (get_or l.extrinsics k (pos 0))) c.loop-k.invariant.1
          ∙ page_more l k,
    )

pub returns : goal.returns
returns c =
    let all : c.loop-k.k ≡ length c.args.bits.now = omega arith in
    record { few = omega arith; is = c.loop-k.invariant.1 ∙ ap (page_to _) all ∙ page_all _ }
