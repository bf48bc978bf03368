-- The page holds the answer to what was read, and that is the answer to the whole input.
-- Assumes nothing.
use Rattle.std.proofs.Common.{rules, subst}
use Rattle.std.specs.Io.KnownBytes.{Appends}
use Rattle.receiver.proofs.Serving.{delivered, served, refused, was_ok, if_ok}
use Rattle.receiver.proofs.serve.Goals as goal

pub returns : goal.returns
returns g c =
    let given = c.answer-written.ensures in
    let text = delivered _ _ c.answer-written.new.out c.answer-written.result given.fits_page (search rules) given.value given.out_after in
    let read = was_ok _ c.read_sheet.result c.map_err.result c.in_ok-count.count c.map_err.ensures.cases c.in_ok-count.was in
    let sheet = rw read at c.read_sheet.ensures.bytes in
    record {
      bytes = if_ok _ c.finish.result c.map_err-2.result c.map_err-2.ensures.cases (λ x h. served _ _ _ _ _ (search rules) sheet (subst (Appends _ _) text h)) c.finish.ensures.bytes;
      refused = if_ok _ c.finish.result c.map_err-2.result c.map_err-2.ensures.cases (λ x h. refused _ _ _ _ _ (search rules) sheet text h) c.finish.ensures.refused;
    }
