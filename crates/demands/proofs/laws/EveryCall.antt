-- Demand 1, the proof: every call of every entry is answered by the first of its checks that fails, and leaves its lists as the statement says.
-- Assumes nothing.
use Rattle.std.specs.Prelude.{◌≡◌, refl, List, [], ℕ, Float, ℤ, pos, length, replicate, Ok, Err}
use Rattle.std.proofs.Common.{inl, inr, ⊎_elim, ne_eqb}
use Rattle.refusal.specs.Refusals.{Reply, told, number_of, Check, first_of, cleared}
use Rattle.refusal.specs.laws.Checks.{refused_is_not_done}
use Rattle.refusal.specs.laws.InTurn.{first_is_reply}
use Rattle.refusal.specs.laws.Kept.{after_refusal}
use Rattle.trellis.specs.Table.{table_checks}
use Rattle.taps.specs.Build.{TapsCall, TapsLent, taps_checks, taps_built}
use Rattle.polynomial.specs.Polynomial.{PatternCall, size_checks, entry_checks, pattern_checks, pattern_built}
use Rattle.siso.specs.Decode.{Call, Lent, lent_checks, path_checks, checks, settled, decode as lone_decode}
use Rattle.coder.specs.Coder.{EncodeCall, encode_lent_checks, encode_path_checks, encode_checks, encode_settled, encode}
use Rattle.decoder.specs.Decoder.{DecodeCall, DecodeLent, decode_lent_checks, decode_path_checks, decode_checks, decode_settled, decode}
use Rattle.samples.specs.declared.Setting.{Setting}
use Rattle.samples.specs.Samples.{sample_checks, sample_values}
use Rattle.demands.specs.Answered.{sheet_rules}
use Rattle.demands.specs.Called.{lone_numbers, coder_numbers, decoder_numbers, taps_numbers, pattern_numbers, sample_numbers, sheet_numbers, numbers_of, Clears, IsCall, EveryCall}
use Rattle.demands.proofs.laws.EverySheet.{every_sheet_is_answered}

-- ---- over any list of checks

cleared_zeros : (r : Reply) (work : List ℤ) → Clears r → cleared r work ≡ replicate (length work) (pos 0)
unfolding cleared number_of
cleared_zeros (Ok tt) work h = refl
cleared_zeros (Err r) work h = ⊎_elim (λ e. absurd (refused_is_not_done e)) (⊎_elim (λ e. rw e refl) (λ e. rw e refl)) h

cleared_kept : (r : Reply) (work : List ℤ) → (Clears r → ⊥) → cleared r work ≡ work
unfolding cleared number_of
cleared_kept (Ok tt) work h = absurd (h (inl refl))
cleared_kept (Err r) work h =
    rw (ne_eqb (told r).number 12 (λ e. h (inr (inl e))), ne_eqb (told r).number 13 (λ e. h (inr (inr e)))) refl

module _ {A : Type 0} {numbers : List ℕ} (cs : List Check) {lent left : A} (numbered : numbers_of cs ≡ numbers) (kept : (first_of cs ≡ Ok tt → ⊥) → left ≡ lent) where
  -- an entry that has a working list, and one that has none
  called : (work : List ℤ) → IsCall numbers cs (first_of cs) lent left work (cleared (first_of cs) work)
  called work = record {
    numbered = numbered;
    replied = first_is_reply cs;
    kept = kept;
    zeros = cleared_zeros (first_of cs) work;
    work_kept = cleared_kept (first_of cs) work;
  }

  pub called_workless : IsCall numbers cs (first_of cs) lent left [] []
  called_workless = record { numbered = numbered; replied = first_is_reply cs; kept = kept; zeros = λ h. refl; work_kept = λ h. refl }

-- ---- the numbers of each entry

pub lone_numbered : (c : Call) (l : Lent) → numbers_of (checks c l) ≡ lone_numbers
unfolding checks lent_checks path_checks table_checks told
lone_numbered c l = refl

pub coder_numbered : (c : EncodeCall) (sent : List ℕ) → numbers_of (encode_checks c sent) ≡ coder_numbers
unfolding encode_checks encode_lent_checks encode_path_checks table_checks told
coder_numbered c sent = refl

pub decoder_numbered : (c : DecodeCall) (l : DecodeLent) → numbers_of (decode_checks c l) ≡ decoder_numbers
unfolding decode_checks decode_lent_checks decode_path_checks table_checks told
decoder_numbered c l = refl

taps_numbered : (c : TapsCall) (l : TapsLent) → numbers_of (taps_checks c l) ≡ taps_numbers
unfolding taps_checks told
taps_numbered c l = refl

pattern_numbered : (c : PatternCall) (long : ℕ) → numbers_of (pattern_checks c long) ≡ pattern_numbers
unfolding pattern_checks size_checks entry_checks told
pattern_numbered c long = refl

samples_numbered : (s : Setting) (samples : List Float) (long : ℕ) → numbers_of (sample_checks s samples long) ≡ sample_numbers
unfolding sample_checks told
samples_numbered s samples long = refl

sheet_numbered : (sheet : List ℕ) → numbers_of (sheet_rules sheet) ≡ sheet_numbers
unfolding sheet_rules told
sheet_numbered sheet = refl

-- ---- every entry

two : {A B : Type 0} {x x' : A} {y y' : B} → x ≡ x' → y ≡ y' → ◌≡◌ {A = A × B} (x, y) (x', y')
two e f = λ i. (e i, f i)

pub every_call_is_answered : EveryCall
unfolding lone_decode settled encode encode_settled decode decode_settled taps_built pattern_built sample_values
every_call_is_answered = record {
  lone = λ c l.
      called (checks c l) (lone_numbered c l) (λ h. two (after_refusal h _ _) (two (after_refusal h _ _) (after_refusal h _ _))) l.work;
  coder = λ c sent. called_workless (encode_checks c sent) (coder_numbered c sent) (λ h. after_refusal h _ _);
  frame = λ c l.
      called (decode_checks c l) (decoder_numbered c l) (λ h. two (after_refusal h _ _) (two (after_refusal h _ _) (after_refusal h _ _))) l.work;
  table = λ c l. called_workless (taps_checks c l) (taps_numbered c l) (λ h. two (after_refusal h _ _) (after_refusal h _ _));
  pattern = λ c list. called_workless (pattern_checks c (length list)) (pattern_numbered c (length list)) (λ h. after_refusal h _ _);
  samples = λ s samples values.
      called_workless (sample_checks s samples (length values)) (samples_numbered s samples (length values)) (λ h. after_refusal h _ _);
  sheet = λ sheet. (sheet_numbered sheet, every_sheet_is_answered sheet);
}
