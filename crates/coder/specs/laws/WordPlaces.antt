-- The words of all inputs of the two coders have the bits of the frame's places: a systematic word's outputs are the input and the parity.
-- Assumes nothing.
use Rattle.std.specs.Prelude.{◌≡◌, true, get_or}
use Rattle.std.proofs.Common.{ap, arith}
use Rattle.std.proofs.Math.Path.{ap₂}
use mathlib.Core.List.{List, [], ◌∷◌, ◌++◌}
use Prim.Native.Nat.{ℕ, zero, suc, ◌+◌, ◌<◌}
use Rattle.std.proofs.Math.ListN.{length}
use Rattle.lists.specs.laws.Listed.{joined_ext}
use Rattle.lists.specs.laws.Tests.{and_left}
use Rattle.trellis.specs.declared.End.{End}
use Rattle.trellis.specs.Path.{TrellisPath}
use Rattle.trellis.specs.Table.{Table, next_state, output, systematic, shaped, branched}
use Rattle.trellis.specs.laws.Branches.{next_below, systematic_at_lem}
use Rattle.trellis.specs.Best.{IsPath}
use Rattle.frame.specs.Frame.{Frame, tail1, tail2, sections1, sections2, codes}
use Rattle.coder.specs.Coder.{parity_at, section_at, places}
use Rattle.coder.specs.laws.Sections.{words_along, section_of, places_of}
use Rattle.coder.specs.laws.Walking.{words_at}

-- the words of a path's sections
abbrev pub words_of : Table → TrellisPath → List ℕ
words_of t p = words_along t p.start p.bits

parity_output : (t : Table) (p : TrellisPath) (k : ℕ) → k < length p.bits → output (get_or (words_of t p) k 0) 1 ≡ parity_at t p k
unfolding parity_at
parity_output t p k h = ap (λ (w : ℕ). output w 1) (words_at t p.start p.bits k h)

module _ (t : Table) (shape : shaped t ≡ true) (branches : branched t ≡ true) (code : systematic t ≡ true) where
  pub input_output : (s : ℕ) (xs : List ℕ) (k : ℕ) → s < t.states → ((i : ℕ) → get_or xs i 0 < 2) → k < length xs →
      output (get_or (words_along t s xs) k 0) 0 ≡ get_or xs k 0
  unfolding words_along
  input_output s [] k here bits h = absurd (omega arith)
  input_output s (x ∷ xs) zero here bits h = systematic_at_lem t s x here (bits 0) code
  input_output s (x ∷ xs) (suc k) here bits h =
      input_output (next_state t s x) xs k (next_below t s x here (bits 0) shape branches) (λ i. bits (suc i)) (omega arith)

  section_output : {end : End} {n : ℕ} (p : TrellisPath) (k : ℕ) → IsPath t end n p → k < n → section_of (get_or (words_of t p) k 0) ≡ section_at t p k
  unfolding section_at
  section_output p k is h =
      let l : k < length p.bits = omega (arith, is.bits.size) in
      ap₂ (λ a b. a ∷ b ∷ []) (input_output p.start p.bits k is.start is.bits.bit l) (parity_output t p k l)

module _ (f : Frame) (shape : shaped f.table ≡ true) (branches : branched f.table ≡ true) (code : codes f ≡ true) where
  section : {end : End} {n : ℕ} {p : TrellisPath} → IsPath f.table end n p → (k : ℕ) → k < n →
      section_of (get_or (words_of f.table p) k 0) ≡ section_at f.table p k
  unfolding codes
  section {p = p} is k h = section_output f.table shape branches (and_left _ _ code) p k is h

  pub places_by_words : (p q : TrellisPath) → IsPath f.table f.first (sections1 f) p → IsPath f.table f.second (sections2 f) q →
      places_of f.bits (tail1 f) (tail2 f) (words_of f.table p) (words_of f.table q) ≡ places f p q
  unfolding places_of places sections1 sections2 tail1 tail2
  places_by_words p q v w =
      ap₂ ◌++◌
      (ap₂ ◌++◌ (joined_ext _ _ f.bits position) (joined_ext _ _ (tail1 f) (λ j h. section v (f.bits + j) (omega arith))))
      (joined_ext _ _ (tail2 f) (λ j h. section w (f.bits + j) (omega arith)))
    where
      position : (k : ℕ) → k < f.bits →
          section_of (get_or (words_of f.table p) k 0) ++ (output (get_or (words_of f.table q) k 0) 1 ∷ [])
          ≡ section_at f.table p k ++ (parity_at f.table q k ∷ [])
      position k h =
          ap₂ (λ (l : List ℕ) (b : ℕ). l ++ (b ∷ [])) (section v k (omega arith)) (parity_output f.table q k (omega (arith, w.bits.size)))
