use Rattle.std.proofs.Common.{sym, ◌∙◌}
use Rattle.refusal.specs.Refusals.{place_of}
use Rattle.sheet.specs.laws.Decoding.{answer_refused}
use Rattle.sheet.proofs.write_answer.Goals as goal

pub put_refusal-requires : goal.put_refusal-requires
unfolding place_of
put_refusal-requires c = rw c.in-Err.is at c.text_reply.ensures.result_bound

pub returns-in-Err : goal.returns-in-Err
returns-in-Err c =
    let w = c.put_refusal.ensures in
    record { few = w.few; is = w.is ∙ answer_refused _ _ (sym c.text_reply.ensures.value ∙ c.in-Err.is) }
