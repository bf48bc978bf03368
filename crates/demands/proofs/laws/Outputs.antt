-- The bit of every place of a frame is an output of a branch that one of the two coders takes: the outputs of the first coder's section k at a
-- position and in tail 1, and the second coder's parity at a position and both its outputs in tail 2.
-- Assumes nothing.
use Rattle.std.specs.Prelude.{◌≡◌, List, [], ◌∷◌, ℕ, ◌+◌, ◌*◌, ◌/◌, ◌%◌, ◌<◌, get_or, take}
use Rattle.std.proofs.Math.Path.{refl}
use Rattle.std.proofs.Common.{sym, ap, ◌∙◌}
use native.Mathlib.Omega.{arith}
use Rattle.lists.specs.laws.Tests.{and_left}
use Rattle.trellis.specs.Table.{Table, word, output}
use Rattle.trellis.specs.declared.End.{End}
use Rattle.trellis.specs.Path.{TrellisPath, finish}
use Rattle.trellis.specs.Best.{IsPath}
use Rattle.frame.specs.Frame.{Frame, tail1, tail2, sections1, sections2, codes}
use Rattle.coder.specs.Coder.{places}
use Rattle.frame.proofs.laws.Checked.{Framed}
use Rattle.coder.specs.laws.Sections.{places_of}
use Rattle.coder.specs.laws.Walking.{words_at}
use Rattle.coder.specs.laws.WordPlaces.{words_of, input_output, places_by_words}
use Rattle.coder.specs.laws.Places.{position_of, section_at_lem, place_of_position, place_of_tail_1, place_of_tail_2}

-- the word of the branch that a path takes in section k
abbrev pub word_at : Table → TrellisPath → ℕ → ℕ
word_at t p k = word t (finish t p.start (take k p.bits)) (get_or p.bits k 0)

module _ (f : Frame) (framed : Framed f) where
  word_of : {end : End} {n : ℕ} (p : TrellisPath) → IsPath f.table end n p → (k : ℕ) → k < n → get_or (words_of f.table p) k 0 ≡ word_at f.table p k
  word_of p path k h = words_at f.table p.start p.bits k (omega (arith, path.bits.size))

  -- its first output is the input
  pub first_output : {end : End} {n : ℕ} (p : TrellisPath) → IsPath f.table end n p → (k : ℕ) → k < n →
      output (word_at f.table p k) 0 ≡ get_or p.bits k 0
  unfolding codes
  first_output p path k h =
      rw (word_of p path k h) at
      (input_output f.table framed.shape framed.branches (and_left _ _ framed.codes) p.start p.bits k
      path.start path.bits.bit (omega (arith, path.bits.size)))

  module _ (p q : TrellisPath) (first : IsPath f.table f.first (sections1 f) p) (second : IsPath f.table f.second (sections2 f) q) where
    abbrev words1 : List ℕ
    words1 = words_of f.table p

    abbrev words2 : List ℕ
    words2 = words_of f.table q

    by_words : (i : ℕ) → get_or (places f p q) i 0 ≡ get_or (places_of f.bits (tail1 f) (tail2 f) words1 words2) i 0
    by_words i = ap (λ (l : List ℕ). get_or l i 0) (sym (places_by_words f framed.shape framed.branches framed.codes p q first second))

    position_place : (k l : ℕ) → k < f.bits → l < 3 →
        get_or (places f p q) (3 * k + l) 0 ≡ get_or (position_of (word_at f.table p k) (word_at f.table q k)) l 0
    unfolding sections1 sections2 tail1 tail2
    position_place k l h g =
        let section : (3 * k + l) / 3 ≡ k = omega arith in
        let rest : (3 * k + l) % 3 ≡ l = omega arith in
        by_words (3 * k + l)
        ∙ (rw (section, rest, word_of p first k (omega arith), word_of q second k (omega arith)) at
        (place_of_position f.bits (tail1 f) (tail2 f) words1 words2 (3 * k + l) (omega arith)))

    pub place_1 : (k l : ℕ) → k < f.bits → l < 2 → get_or (places f p q) (3 * k + l) 0 ≡ output (word_at f.table p k) l
    place_1 k l h g = position_place k l h (omega arith) ∙ section_at_lem (word_at f.table p k) (output (word_at f.table q k) 1 ∷ []) l g

    pub place_2 : (k : ℕ) → k < f.bits → get_or (places f p q) (3 * k + 2) 0 ≡ output (word_at f.table q k) 1
    place_2 k h = position_place k 2 h (omega arith)

    pub tail_place_1 : (j l : ℕ) → j < tail1 f → l < 2 →
        get_or (places f p q) (3 * f.bits + (2 * j + l)) 0 ≡ output (word_at f.table p (f.bits + j)) l
    unfolding sections1 sections2 tail1 tail2
    tail_place_1 j l h g =
        let section : (2 * j + l) / 2 ≡ j = omega arith in
        let rest : (2 * j + l) % 2 ≡ l = omega arith in
        by_words (3 * f.bits + (2 * j + l))
        ∙ (rw (section, rest, word_of p first (f.bits + j) (omega arith)) at
        (place_of_tail_1 f.bits (tail1 f) (tail2 f) words1 words2 (3 * f.bits + (2 * j + l)) (2 * j + l) refl (omega arith)))

    pub tail_place_2 : (j l : ℕ) → j < tail2 f → l < 2 →
        get_or (places f p q) (3 * f.bits + 2 * tail1 f + (2 * j + l)) 0 ≡ output (word_at f.table q (f.bits + j)) l
    unfolding sections1 sections2 tail1 tail2
    tail_place_2 j l h g =
        let section : (2 * j + l) / 2 ≡ j = omega arith in
        let rest : (2 * j + l) % 2 ≡ l = omega arith in
        by_words (3 * f.bits + 2 * tail1 f + (2 * j + l))
        ∙ (rw (section, rest, word_of q second (f.bits + j) (omega arith)) at
        (place_of_tail_2 f.bits (tail1 f) (tail2 f) words1 words2 (3 * f.bits + 2 * tail1 f + (2 * j + l)) (2 * j + l) refl (omega arith)))
