use Rattle.std.proofs.Common.{◌++◌, ℕ, pos, ◌≤◌, ap₂, ◌∙◌, arith}
use Rattle.std.specs.Int.{w32}
use Rattle.std.proofs.Math.Facts.{to_z_pos}
use Rattle.refusal.specs.laws.Checks.{number_small}
use Rattle.text.specs.Text.{bytes}
use Rattle.sheet.specs.laws.Printing.{wrote_then, pasted_wrote, entry, refusal_is}
use Rattle.sheet.proofs.print.put_refusal.Goals as goal

pub returns : goal.returns
unfolding bytes
returns c =
    let small : c.number-number.result ≤ 255 = rw c.number-number.ensures (number_small c.args.why) in
    let w =
    rw (to_z_pos w32 {n = c.number-number.result} (omega arith), to_z_pos w32 {n = c.place-line.result} (omega arith))
    at (wrote_then (wrote_then (pasted_wrote 13 (omega arith) (omega arith) c.put-one.ensures) c.put_number-two.ensures) c.put_number.ensures) in
    record {
      few = omega (arith, w.few);
      is =
          w.is
          ∙ ap₂ (λ (number line : ℕ). bytes "refused line\n" ++ entry (pos number) 32 ++ entry (pos line) 10) c.number-number.ensures c.place-line.ensures
          ∙ refusal_is c.args.why;
    }
