-- What the coder relies on behind its checks, as its code needs it: the sizes, the lists' lengths, and that the table leads on.
-- Assumes nothing.
use Rattle.std.specs.Prelude.{◌≡◌, List, ℕ, ◌+◌, ◌<◌, ◌≤◌, length, get_or}
use Rattle.trellis.specs.Best.{IsBits}
use Rattle.frame.specs.Frame.{Frame, tail_of, length_under}
use Rattle.frame.specs.laws.Interleaving.{Permutes}
use Rattle.frame.proofs.laws.Checked.{checked, few_tail}
use Rattle.std.proofs.Common.{arith}
use Rattle.coder.specs.laws.Bits.{bits_tested}
use Rattle.coder.specs.laws.Leading.{Leads, table_leads}
use Rattle.coder.specs.laws.Lent.{Codable}
use Rattle.frame.specs.Frame.{frame_length, tail1, tail2}

pub record Ready (f : Frame) (message sent : List ℕ) : Type 0 where
  pub leads : Leads f.table.next 0
  pub words_long : length f.table.words ≡ length f.table.next
  pub bits : IsBits (length message) message
  pub message_long : length message ≡ f.bits
  pub permutes : Permutes (length message) f.pattern
  pub few_tails : f.tail ≤ 4
  pub few1 : f.bits + tail_of f.first f.tail ≤ 4096
  pub few2 : f.bits + tail_of f.second f.tail ≤ 4096
  pub some_mask : 0 < length f.masks
  pub small_masks : (i : ℕ) → i < length f.masks → get_or f.masks i 0 < 8
  pub sent_long : length sent ≡ length_under f.masks f.bits (tail_of f.first f.tail + tail_of f.second f.tail)

pub ready : (f : Frame) (message sent : List ℕ) → Codable f message sent → Ready f message sent
unfolding frame_length tail1 tail2
ready f message sent w =
    let k = checked f w.framed in
    record {
      leads = table_leads f.table w.framed.shape w.framed.branches;
      words_long = k.words_long;
      bits = bits_tested message w.bits;
      message_long = w.message_long;
      permutes = rw w.message_long k.permutes;
      few_tails = k.few_tails;
      few1 = omega (arith, k.few_sections, few_tail f.first f.tail);
      few2 = omega (arith, k.few_sections, few_tail f.second f.tail);
      some_mask = k.some_mask;
      small_masks = k.small_masks;
      sent_long = w.sent_long;
    }
