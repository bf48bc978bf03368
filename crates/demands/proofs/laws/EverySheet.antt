-- What a sheet is answered with, the proof: every sequence of bytes is answered as the statement says, and by nothing else.
-- Assumes nothing.
use Rattle.std.specs.Prelude.{◌≡◌, ◌≢◌, Bool, List, ℕ, suc, ◌+◌, length, Ok, Err}
use Rattle.std.proofs.Math.Path.{refl, sym, ap, subst}
use Rattle.std.proofs.Common.{◌∙◌, arith}
use Rattle.std.proofs.Math.Logic.{inl, inr}
use Rattle.std.proofs.Math.Bool.{true, false, not}
use Rattle.std.proofs.lemmas.Bool.{false≢true, not-false}
use Rattle.std.proofs.Math.Option.{Option, none, some, Option-elim}
use Rattle.lists.specs.Lists.{first_failing, found}
use Rattle.lists.specs.laws.Listed.{listed_length}
use Rattle.refusal.specs.declared.Refusal.{Refusal}
use Rattle.refusal.specs.declared.Refusal.TheVariants.{Text, ValueInLine, Pattern}
use Rattle.refusal.specs.Refusals.{Reply, told, check, ◌then◌, first_of}
use Rattle.refusal.specs.laws.InTurn.{first_is_reply, done_exactly, both_done, Each, each_holds, each_done}
use Rattle.trellis.specs.Limits.{channel_fits}
use Rattle.frame.specs.Interleaver.{permutes}
use Rattle.decoder.specs.Decoder.{DecodeResult, decode_lent_checks, decode_path_checks, decode_checks, decode_settled, decode}
use Rattle.rows.specs.Lines.{message_bits, first_fault, fault_line, size_fits, text_checks}
use Rattle.sheet.specs.Sheet.{message_at, values_of, row_values, value_line, sheet_checks, sheet_call_of, lent_for, refusal_text, result_text, printed, answer}
use Rattle.sheet.specs.laws.Range.{value_line_first, rows_count}
use Rattle.sheet.specs.laws.Answers.{sheet_reply, frame_reply, result_long, result_feeds}
use Rattle.demands.specs.Answered.{sheet_rules, IsFaultyLine, IsFaultless, IsValueLine, IsResult, IsAnswer}
use Rattle.demands.proofs.laws.EveryDecoding.{every_decoding_means}
use Rattle.demands.proofs.laws.FaultyLines.{faulty_line, faultless_lines}

module _ (sheet : List ℕ) where
  abbrev frame_result : DecodeResult
  frame_result = decode (sheet_call_of sheet) (lent_for sheet)

  -- ---- the answer by the rules

  reply_by_rules : first_of (sheet_checks sheet) ≡ first_of (sheet_rules sheet)
  unfolding sheet_rules text_checks sheet_call_of
  reply_by_rules = sheet_reply sheet

  answer_by_rules : (r : Reply) → first_of (sheet_rules sheet) ≡ r → answer sheet ≡ printed r frame_result.lists
  unfolding answer
  answer_by_rules r e = ap (λ (x : Reply). printed x frame_result.lists) (reply_by_rules ∙ e)

  pub answer_refused : (r : Refusal) → first_of (sheet_rules sheet) ≡ Err r → answer sheet ≡ refusal_text r
  unfolding printed
  answer_refused r e = answer_by_rules (Err r) e

  pub answer_decoded : first_of (sheet_rules sheet) ≡ Ok tt → answer sheet ≡ result_text frame_result.lists
  unfolding printed
  answer_decoded e = answer_by_rules (Ok tt) e

  -- ---- decoded

  module _ (unbroken : first_of (sheet_rules sheet) ≡ Ok tt) where
    frame_done : first_of (decode_checks (sheet_call_of sheet) (lent_for sheet)) ≡ Ok tt
    unfolding sheet_rules text_checks sheet_call_of Each
    frame_done =
        let (sized, (faultless, (inside, (permuted, end)))) = each_holds (sheet_rules sheet) unbroken in
        frame_reply sheet (each_done (text_checks sheet) (sized, (faultless, tt))) ∙ each_done _ (inside, (permuted, tt))

    pub frame_passes : first_of (decode_lent_checks (sheet_call_of sheet) (lent_for sheet)) ≡ Ok tt
    unfolding decode_checks
    frame_passes = (both_done (decode_lent_checks (sheet_call_of sheet) (lent_for sheet)) (decode_path_checks (sheet_call_of sheet).frame) frame_done).0

    frame_replied : frame_result.reply ≡ Ok tt
    unfolding decode decode_settled
    frame_replied = frame_done

    -- a line for each message position
    pub all_lines : length frame_result.lists.bits ≡ message_bits sheet
    unfolding sheet_call_of
    all_lines = result_long (sheet_call_of sheet) (lent_for sheet) frame_replied ∙ listed_length (λ k. (message_at sheet k).to) (message_bits sheet)

    no_fault : IsFaultless sheet
    unfolding sheet_rules Each found
    no_fault = faultless_lines sheet (go (first_fault sheet) (each_holds (sheet_rules sheet) unbroken).1.0)
      where
        go : (f : Option ℕ) → not (found f) ≡ true → f ≡ none
        go none e = refl
        go (some i) e = absurd (false≢true e)

    is_result : IsResult sheet (answer sheet)
    unfolding result_text
    is_result = record {
      unbroken = (done_exactly (sheet_rules sheet)).0 unbroken;
      faultless = no_fault;
      result = frame_result;
      decoding = every_decoding_means (sheet_call_of sheet) (lent_for sheet) frame_passes;
      done = frame_replied;
      whole = rw all_lines at (answer_decoded unbroken);
      line_feeds = rw (answer_decoded unbroken) (result_feeds frame_result.lists ∙ ap (λ (k : ℕ). k + 1) all_lines);
    }

  -- ---- refused

  -- where a value is outside its limits
  value_line_is : channel_fits (values_of sheet) ≡ false → IsValueLine sheet (value_line sheet)
  unfolding value_line
  value_line_is e =
      let first = value_line_first sheet e in
      record {
        row = first_failing channel_fits (row_values sheet);
        in_sheet = omega (arith, first.in_list, rows_count sheet);
        below_header = refl;
        outside = first.fails;
        inside_before = first.passed;
      }

  -- where a line is faulty
  told_line : not (found (first_fault sheet)) ≡ false → IsFaultyLine sheet (fault_line sheet)
  unfolding fault_line found Option-elim
  told_line e = go (first_fault sheet) refl (not-false _ e)
    where
      go : (f : Option ℕ) → first_fault sheet ≡ f → found f ≡ true → IsFaultyLine sheet (Option-elim f 0 suc)
      go none is h = absurd (false≢true h)
      go (some i) is h = faulty_line sheet i is

  refused : (r : Refusal) → first_of (sheet_rules sheet) ≡ Err r → ((line : ℕ) → r ≡ Text line → line ≢ 0 → IsFaultyLine sheet line) →
      ((line : ℕ) → r ≡ ValueInLine line → IsValueLine sheet line) → IsAnswer sheet (answer sheet)
  unfolding IsAnswer refusal_text
  refused r e faulty value =
      inl (record { refusal = r; first = ((first_is_reply (sheet_rules sheet)).refused r).0 e; faulty = faulty; value = value; whole = answer_refused r e })

  -- ---- by the rules

  told_apart : {r s : Refusal} → (told r).number ≢ (told s).number → r ≡ s → ⊥
  told_apart h e = h (ap (λ (x : Refusal). (told x).number) e)

  tested : (a b c d : Bool) → size_fits sheet ≡ a → not (found (first_fault sheet)) ≡ b → channel_fits (values_of sheet) ≡ c →
      permutes (message_bits sheet) (sheet_call_of sheet).frame.pattern ≡ d → IsAnswer sheet (answer sheet)
  unfolding sheet_rules first_of check ◌then◌ told
  tested false b c d ea eb ec ed =
      refused (Text 0) (rw ea refl) (λ line is some. absurd (some (sym (ap (λ (x : Refusal). (told x).place) is))))
      (λ line is. absurd (told_apart (λ n. omega arith) is))
  tested true false c d ea eb ec ed =
      refused (Text (fault_line sheet)) (rw (ea, eb) refl)
      (λ line is some. subst (IsFaultyLine sheet) (ap (λ (x : Refusal). (told x).place) is) (told_line eb))
      (λ line is. absurd (told_apart (λ n. omega arith) is))
  tested true true false d ea eb ec ed =
      refused (ValueInLine (value_line sheet)) (rw (ea, eb, ec) refl) (λ line is some. absurd (told_apart (λ n. omega arith) is))
      (λ line is. subst (IsValueLine sheet) (ap (λ (x : Refusal). (told x).place) is) (value_line_is ec))
  tested true true true false ea eb ec ed =
      refused Pattern (rw (ea, eb, ec, ed) refl) (λ line is some. absurd (told_apart (λ n. omega arith) is)) (λ line is. absurd (told_apart (λ n. omega arith) is))
  tested true true true true ea eb ec ed = unfold IsAnswer in inr (is_result (rw (ea, eb, ec, ed) refl))

-- every sequence of bytes is a sheet
pub every_sheet_is_answered : (sheet : List ℕ) → IsAnswer sheet (answer sheet)
every_sheet_is_answered sheet = tested sheet _ _ _ _ refl refl refl refl
