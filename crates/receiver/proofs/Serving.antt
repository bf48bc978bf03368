-- The answer to as much of a sheet as the room holds is the answer to the sheet: one that does not fit is too long, and so is what fits of it.
-- Assumes nothing.
use Rattle.std.specs.Prelude.{◌==◌, ◌≡◌, Result, Ok, Err, MatchResult, IfOk, refl, Bool, slice_index, ℕ, ◌<◌, List, ◌++◌, Option, Some, None, IfSome, cond, leb, take, drop, length}
use Rattle.std.specs.Result.{IsErrAnd}
use Rattle.std.specs.Io.KnownBytes.{Appends}
use Rattle.std.proofs.Common.{◌∙◌, sym, ap, subst, arith, length-take-le, take_all, take_at, le-leb}
use Rattle.std.proofs.Math.Decide.{dec_lt}
use Rattle.refusal.specs.Refusals.{Reply}
use Rattle.text.specs.Text.{bytes}
use Rattle.refusal.specs.declared.Refusal.{Refusal}
use Rattle.refusal.specs.declared.Refusal.TheVariants.{Text}
use Rattle.refusal.specs.laws.InTurn.{first_refuses}
use Rattle.decoder.specs.Decoder.{DecodeLent}
use Rattle.rows.specs.laws.Fitting.{too_long}
use Rattle.sheet.specs.Sheet.{answer, printed, sheet_checks, refusal_text, result_text, FitsPage}
use Rattle.receiver.specs.Bytes.{is_refusal, refuses}

printed_refused : (reply : Reply) (r : Refusal) (l : DecodeLent) → reply ≡ Err r → printed reply l ≡ refusal_text r
unfolding printed
printed_refused reply r l e = rw e refl

-- a sheet that is too long is answered with that alone
long_answer : (sheet : List ℕ) → 16384 < length sheet → answer sheet ≡ refusal_text (Text 0)
unfolding answer sheet_checks
long_answer sheet long = printed_refused _ _ _ (first_refuses _ _ (sym (too_long sheet long)))

pub front_answered : (sheet : List ℕ) → answer (take 16385 sheet) ≡ answer sheet
front_answered sheet = elim (dec_lt 16384 (length sheet)) [
  | yes long ↦ long_answer _ (omega (arith, length-take-le 16385 sheet (omega arith))) ∙ sym (long_answer sheet long)
  | no short ↦ ap answer (take_all 16385 sheet (omega arith))
]

-- what is delivered to a page is the text
pub delivered : (text page after : List ℕ) (n : ℕ) → FitsPage text → length page ≡ 24600 → n ≡ cond (leb (length text) (length page)) (length text) 0
    → after ≡ cond (leb (length text) (length page)) (text ++ drop (length text) page) page → take n after ≡ text
delivered text page after n fits size told is =
    let room = le-leb (length text) (length page) (omega (arith, size, fits.few)) in
    let all : n ≡ length text = told ∙ rw room refl in
    let put : after ≡ text ++ drop (length text) page = is ∙ rw room refl in
    ap (λ m. take m after) all ∙ ap (take (length text)) put ∙ take_at text _ (length text) refl

-- of known input, with what was read of it
pub served : (source old new : Option (List ℕ)) (sheet : List ℕ) (room : ℕ) → room ≡ 16385 → IfSome source (λ input. sheet ≡ take room input)
    → Appends old new (answer sheet) → IfSome source (λ input. Appends old new (answer input))
served None old new sheet room size is out = tt
served (Some input) old new sheet room size is out =
    subst (Appends old new) (ap answer (is ∙ ap (λ n. take n input) size) ∙ front_answered input) out

-- ---- the answer's first byte says whether it is a refusal

first_byte : (reply : Reply) (l : DecodeLent) → (slice_index (printed reply l) 0 == 114) ≡ is_refusal reply
unfolding printed result_text refusal_text bytes is_refusal
first_byte (Ok tt) l = refl
first_byte (Err r) l = refl

answer_refuses : (sheet : List ℕ) → (slice_index (answer sheet) 0 == 114) ≡ refuses sheet
unfolding answer
answer_refuses sheet = first_byte _ _

pub refused : (source : Option (List ℕ)) (sheet text : List ℕ) (room : ℕ) (told : Bool) → room ≡ 16385 → IfSome source (λ input. sheet ≡ take room input)
    → text ≡ answer sheet → told ≡ (slice_index text 0 == 114) → IfSome source (λ input. told ≡ refuses input)
refused None sheet text room told size is out first = tt
refused (Some input) sheet text room told size is out first =
    let whole : text ≡ answer input = out ∙ ap answer (is ∙ ap (λ n. take n input) size) ∙ front_answered input in
    first ∙ ap (λ t. slice_index t 0 == 114) whole ∙ answer_refuses input

-- ---- an error told as another leaves what is no error as it was

pub was_ok : {A E F : Type 0} (Q : E → F → Type 0) (r : Result A E) (s : Result A F) (x : A) → MatchResult r (λ y. s ≡ Ok y) (λ e. IsErrAnd s (Q e)) → s ≡ Ok x → r ≡ Ok x
was_ok {A = A} {F = F} Q (Ok y) s x m e = let same : ◌≡◌ {A = Result A F} (Ok y) (Ok x) = sym m ∙ e in let one : y ≡ x = cc in ap (λ z. Ok z) one
was_ok Q (Err e) s x m f = absurd (subst (λ t. IsErrAnd t (Q e)) f m)

pub if_ok : {A E F : Type 0} (Q : E → F → Type 0) {P R : A → Type 0} (r : Result A E) (s : Result A F) → MatchResult r (λ y. s ≡ Ok y) (λ e. IsErrAnd s (Q e))
    → ((x : A) → P x → R x) → IfOk r P → IfOk s R
if_ok Q {R = R} (Ok y) s m f h = subst (λ t. IfOk t R) (sym m) (f y h)
if_ok Q (Err e) (Ok x) m f h = absurd m
if_ok Q (Err e) (Err d) m f h = tt
