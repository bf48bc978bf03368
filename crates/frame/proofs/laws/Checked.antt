-- What the checks on a frame tell, as the code that works on it needs it: its table's lists, its sizes, its pattern and its masks.
-- Assumes nothing.
use Rattle.std.specs.Prelude.{◌≡◌, true, ℕ, ◌+◌, ◌<◌, ◌≤◌, leb, ltb, length, get_or}
use Rattle.std.proofs.Common.{sym, ◌∙◌, arith, leb-true, le-leb, ltb-true}
use Rattle.lists.specs.laws.Every.{every_at}
use Rattle.lists.specs.laws.Tests.{and_left, and_right, and_both, and_true}
use Rattle.trellis.specs.declared.End.{End}
use Rattle.trellis.specs.declared.End.TheVariants.{Zero, Open, Ring}
use Rattle.trellis.specs.Limits.{section_limit, sections_fit}
use Rattle.trellis.specs.Table.{shaped, branched}
use Rattle.trellis.specs.laws.Branches.{shaped_is}
use Rattle.frame.specs.laws.Interleaving.{Permutes}
use Rattle.frame.proofs.laws.Interleaving.{permuting}
use Rattle.frame.specs.Frame.{Frame, tail_of, good_sizes, sizes_fit, masks_fit, codes}
use Rattle.frame.specs.Interleaver.{permutes}

-- a frame that passes every check on its own data
pub record Framed (f : Frame) : Type 0 where
  pub shape : shaped f.table ≡ true
  pub branches : branched f.table ≡ true
  pub sizes : sizes_fit f ≡ true
  pub pattern_long : length f.pattern ≡ f.bits
  pub permutes : permutes f.bits f.pattern ≡ true
  pub masks : masks_fit f ≡ true
  pub codes : codes f ≡ true

pub record Checked (f : Frame) : Type 0 where
  pub words_long : length f.table.words ≡ length f.table.next
  pub few_tails : f.tail ≤ 4
  pub few_sections : f.bits + f.tail ≤ 4096
  pub permutes : Permutes f.bits f.pattern
  pub some_mask : 0 < length f.masks
  pub small_masks : (i : ℕ) → i < length f.masks → get_or f.masks i 0 < 8

pub sizes_small : (k t : ℕ) → good_sizes k t ≡ true → (t ≤ 4) × (k + t ≤ 4096)
sizes_small k t e =
    let (each, both) = and_both _ _ e in
    (leb-true _ _ (and_right (leb 1 k) _ each), leb-true _ _ both)

-- a coder has at most T tail sections
pub few_tail : (end : End) (t : ℕ) → tail_of end t ≤ t
unfolding tail_of
few_tail Zero t = omega arith
few_tail Open t = omega arith
few_tail Ring t = omega arith

-- a coder's sections are a pass's
pub sections_fit_lem : (end : End) (k t : ℕ) → good_sizes k t ≡ true → sections_fit (k + tail_of end t) ≡ true
unfolding sections_fit
sections_fit_lem end k t e =
    let (each, both) = and_both _ _ e in
    let some : 1 ≤ k + tail_of end t = omega (arith, leb-true 1 k (and_left _ _ each)) in
    let few : k + tail_of end t ≤ 4096 = omega (arith, few_tail end t, leb-true (k + t) section_limit both) in
    and_true (le-leb 1 (k + tail_of end t) some) (le-leb _ _ few)

pub checked : (f : Frame) → Framed f → Checked f
unfolding masks_fit sizes_fit
checked f w =
    let shape = shaped_is f.table w.shape in
    let (few_tails, few_sections) = sizes_small f.bits f.tail w.sizes in
    let (periods, small) = and_both _ _ w.masks in
    record {
      words_long = shape.words_length ∙ sym shape.next_length;
      few_tails = few_tails;
      few_sections = few_sections;
      permutes = permuting f.bits f.pattern w.pattern_long w.permutes;
      some_mask = leb-true _ _ (and_left _ _ periods);
      small_masks = λ i h. ltb-true _ _ (every_at (λ m. ltb m 8) 0 f.masks small i h);
    }
