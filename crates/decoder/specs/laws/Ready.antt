-- What the decoder relies on behind its checks, as its code needs it: the sizes, the pattern, the masks, and the length of what is received.
-- Assumes nothing.
use Rattle.std.specs.Prelude.{◌≡◌, List, ℕ, ℤ, ◌+◌, ◌<◌, ◌≤◌, length, get_or}
use Rattle.std.proofs.Common.{arith}
use Rattle.frame.specs.Frame.{Frame, tail_of, tail1, tail2, length_under, frame_length}
use Rattle.frame.specs.laws.Interleaving.{Permutes}
use Rattle.frame.proofs.laws.Checked.{Framed, checked, few_tail}

pub record Ready (f : Frame) (received : List ℤ) : Type 0 where
  pub permutes : Permutes (length f.pattern) f.pattern
  pub few_bits : length f.pattern ≤ 4096
  pub few1 : length f.pattern + tail_of f.first f.tail ≤ 4096
  pub few2 : length f.pattern + tail_of f.second f.tail ≤ 4096
  pub few_tails : tail_of f.first f.tail + tail_of f.second f.tail ≤ 8
  pub some_mask : 0 < length f.masks
  pub small_masks : (i : ℕ) → i < length f.masks → get_or f.masks i 0 < 8
  pub received_long : length received ≡ length_under f.masks (length f.pattern) (tail_of f.first f.tail + tail_of f.second f.tail)

pub ready : (f : Frame) (received : List ℤ) → Framed f → length received ≡ frame_length f → Ready f received
unfolding frame_length tail1 tail2
ready f received w long =
    let k = checked f w in
    record {
      permutes = rw w.pattern_long k.permutes;
      few_bits = omega (arith, k.few_sections, w.pattern_long);
      few1 = omega (arith, k.few_sections, w.pattern_long, few_tail f.first f.tail);
      few2 = omega (arith, k.few_sections, w.pattern_long, few_tail f.second f.tail);
      few_tails = omega (arith, k.few_tails, few_tail f.first f.tail, few_tail f.second f.tail);
      some_mask = k.some_mask;
      small_masks = k.small_masks;
      received_long = rw w.pattern_long long;
    }
