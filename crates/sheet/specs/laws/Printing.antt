-- What is written to a page, text after text, and the answer's texts by their numbers.
-- Assumes nothing.
use Rattle.std.specs.Prelude.{◌≡◌, refl, cond, List, [], ◌∷◌, ◌++◌, ℕ, ◌+◌, ◌≤◌, leb, ℤ, pos, get_or, take, Ok, Err}
use Rattle.std.proofs.Math.Path.{ap}
use Rattle.std.proofs.Common.{◌∙◌, append_assoc, arith, le-leb}
use Rattle.std.proofs.Math.ListN.{length}
use Rattle.std.proofs.Math.Seq.{paste, take-length, length-take-le}
use Rattle.std.proofs.lemmas.List.Edits.{take-paste}
use Rattle.lists.specs.Lists.{joined}
use Rattle.lists.specs.laws.Listed.{joined_more, joined_ext}
use Rattle.refusal.specs.declared.Refusal.{Refusal}
use Rattle.refusal.specs.Refusals.{Reply, told}
use Rattle.decoder.specs.Decoder.{DecodeLent}
use Rattle.text.specs.Text.{bytes}
use Rattle.text.specs.Decimal.{decimal}
use Rattle.sheet.specs.Sheet.{refusal_text, result_line, result_text, printed, answer, FitsPage}

-- a text of at most `room` bytes stands at a place, and nothing before it has changed
pub record Wrote (room : ℕ) (before : List ℕ) (at : ℕ) (text after : List ℕ) (end : ℕ) : Type 0 where
  pub few : end ≤ at + room
  pub is : take end after ≡ take at before ++ text

-- a text stands at a place, and nothing else has changed
pub record Pasted (before : List ℕ) (at : ℕ) (text after : List ℕ) (end : ℕ) : Type 0 where
  pub ends : end ≡ at + length text
  pub pasted : after ≡ paste before at text (length text)

pub pasted_wrote : {before : List ℕ} {at : ℕ} {text after : List ℕ} {end : ℕ} (room : ℕ) → length text ≤ room → at ≤ length before →
    Pasted before at text after end → Wrote room before at text after end
pasted_wrote {before} {at} {text} room h l p = record {
  few = omega (arith, p.ends);
  is =
      rw (p.ends, p.pasted)
      (take-paste before at text (length text) l (omega arith) ∙ ap (λ (t : List ℕ). take at before ++ t) (take-length text));
}

module _ {m n : ℕ} {before after last : List ℕ} {at mid end : ℕ} {s t : List ℕ} where
  pub wrote_then : Wrote m before at s after mid → Wrote n after mid t last end → Wrote (m + n) before at (s ++ t) last end
  wrote_then a b = record {
    few = omega arith;
    is = b.is ∙ ap (λ (l : List ℕ). l ++ t) a.is ∙ append_assoc (take at before) s t;
  }

-- ---- a result's line

-- a number and a byte
abbrev pub entry : ℤ → ℕ → List ℕ
entry z end = decimal z ++ (end ∷ [])

unfoldable pub line_text : ℕ → ℕ → ℤ → ℤ → List ℕ
line_text k bit margin extrinsic = ((entry (pos k) 32 ++ entry (pos bit) 32) ++ entry margin 32) ++ entry extrinsic 10

pub line_is : (l : DecodeLent) (k : ℕ) → line_text k (get_or l.bits k 0) (get_or l.margins k (pos 0)) (get_or l.extrinsics k (pos 0)) ≡ result_line l k
unfolding line_text result_line bytes decimal
line_is l k = simp append_assoc

-- a page up to line k
unfoldable pub page_to : DecodeLent → ℕ → List ℕ
page_to l k = bytes "at bit margin extrinsic\n" ++ joined (result_line l) k

pub page_more : (l : DecodeLent) (k : ℕ) → page_to l k ++ line_text k (get_or l.bits k 0) (get_or l.margins k (pos 0)) (get_or l.extrinsics k (pos 0)) ≡ page_to l (k + 1)
unfolding page_to
page_more l k = rw (line_is l k, joined_more (result_line l) k) (append_assoc (bytes "at bit margin extrinsic\n") (joined (result_line l) k) (result_line l k))

pub page_all : (l : DecodeLent) → page_to l (length l.bits) ≡ result_text l
unfolding page_to result_text
page_all l = refl

-- the working list is not printed
pub work_unseen : (l m : DecodeLent) → l.bits ≡ m.bits → l.margins ≡ m.margins → l.extrinsics ≡ m.extrinsics → result_text l ≡ result_text m
unfolding result_text result_line
work_unseen l m e f g =
    rw (e, f, g) (ap (λ (ls : List ℕ). bytes "at bit margin extrinsic\n" ++ ls) (joined_ext _ _ (length m.bits) (λ i h. refl)))

-- ---- a refusal's text

pub refusal_is : (r : Refusal) → (bytes "refused line\n" ++ entry (pos (told r).number) 32) ++ entry (pos (told r).place) 10 ≡ refusal_text r
unfolding refusal_text bytes decimal
refusal_is r = simp append_assoc

-- ---- every answer has a byte, and one that is written to a page fits on it

printed_some : (r : Reply) (l : DecodeLent) → 1 ≤ length (printed r l)
unfolding printed result_text refusal_text bytes
printed_some (Ok tt) l = omega arith
printed_some (Err r) l = omega arith

module _ (sheet before after : List ℕ) (end : ℕ) (room : length after ≡ 24600) where
  pub answer_fits_page : Wrote 24600 before 0 (answer sheet) after end → FitsPage (answer sheet)
  unfolding answer
  answer_fits_page w =
      let long = length-take-le end after (omega (arith, w.few)) in
      record { some = printed_some _ _; few = omega (arith, w.few, long, ap length w.is) }

-- a list of a page's length is never answered by 0
pub room_enough : (text : List ℕ) (room r : ℕ) → FitsPage text → 24600 ≤ room → r ≡ cond (leb (length text) room) (length text) 0 → (1 ≤ r) × (r ≤ room)
room_enough text room r fits long e =
    let is : r ≡ length text = e ∙ rw (le-leb (length text) room (omega (arith, fits.few))) in
    (omega (arith, fits.some), omega (arith, fits.few))
