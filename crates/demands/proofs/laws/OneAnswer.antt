-- A sheet is answered by one text alone.
-- Assumes nothing.
use Rattle.std.specs.Prelude.{◌≡◌, ◌↔◌, List, ℕ}
use Rattle.std.proofs.Math.Path.{sym}
use Rattle.std.proofs.Common.{◌∙◌}
use Rattle.std.proofs.Math.Logic.{⊎_elim}
use Rattle.refusal.specs.laws.InTurn.{first_is_reply, done_exactly}
use Rattle.sheet.specs.Sheet.{sheet_call_of, lent_for, refusal_text, result_text, answer}
use Rattle.demands.specs.Answered.{sheet_rules, IsResult, IsAnswer}
use Rattle.demands.proofs.laws.Determined.{decoding_exactly}
use Rattle.demands.proofs.laws.EverySheet.{all_lines, answer_decoded, answer_refused, every_sheet_is_answered, frame_passes}

same_text : (sheet text : List ℕ) → IsResult sheet text → text ≡ answer sheet
unfolding result_text
same_text sheet text h =
    let e = (done_exactly (sheet_rules sheet)).1 h.unbroken in
    let same = (decoding_exactly (sheet_call_of sheet) (lent_for sheet) (frame_passes sheet e) h.result).0 h.decoding in
    rw (← all_lines sheet e, same) at h.whole ∙ sym (answer_decoded sheet e)

-- the answer is the only text that the statement allows
pub answer_exactly : (sheet text : List ℕ) → IsAnswer sheet text ↔ (text ≡ answer sheet)
answer_exactly sheet text = (only, λ e. rw e (every_sheet_is_answered sheet))
  where
    only : IsAnswer sheet text → text ≡ answer sheet
    only = unfold IsAnswer refusal_text in
        ⊎_elim (λ h. h.whole ∙ sym (answer_refused sheet h.refusal (((first_is_reply (sheet_rules sheet)).refused h.refusal).1 h.first))) (same_text sheet text)
