-- A frame that passed the checks, sent by the words of its two coders, or refused where one of them has no path.
-- Assumes nothing.
use Rattle.std.specs.Prelude.{Ok, Err, ◌≡◌, Bool, true, false, not, List, ℕ, ◌+◌, ◌/◌, length}
use Rattle.std.proofs.Common.{ap, arith}
use Rattle.refusal.specs.declared.Refusal.TheVariants.{NoTail}
use Rattle.trellis.specs.Table.{Table, table_of, shaped}
use Rattle.trellis.specs.laws.Branches.{shaped_is}
use Rattle.frame.specs.Frame.{Frame, tail_of, tail1, tail2, flags, flags_under, puncture}
use Rattle.frame.specs.Interleaver.{interleave}
use Rattle.coder.specs.Lent.{encode_result_of}
use Rattle.coder.specs.laws.Bits.{bits_tested}
use Rattle.coder.specs.laws.Coding.{Coded, coded}
use Rattle.coder.specs.laws.Lent.{Codable}
use Rattle.coder.specs.laws.Sections.{places_of}
use Rattle.coder.proofs.laws.Coding.{has_path, has_no_path, no_first_path, no_second_path, sent_by_words, settled_none, settled_some}

-- a table of a good shape has half as many states as branches
whole : (t : Table) → shaped t ≡ true → table_of (length t.next / 2) t.outputs t.next t.words ≡ t
whole t shape = ap (λ (states : ℕ). table_of states t.outputs t.next t.words) (omega (arith, (shaped_is t shape).next_length))

module _ (f : Frame) (message sent : List ℕ) (w : Codable f message sent) where
  module _ {has : Bool} {out : List ℕ} where
    pub no_path1 : Coded f.table.next f.table.words f.first f.tail message has out → has ≡ false →
        encode_result_of (Err NoTail) sent ≡ coded (record { frame = f; message = message }) sent
    no_path1 c e = settled_none _ _ (no_first_path f message (rw (whole f.table w.framed.shape) at (has_no_path c f.table.outputs (ap not e))))

    pub no_path2 : Coded f.table.next f.table.words f.second f.tail (interleave 0 f.pattern message) has out → has ≡ false →
        encode_result_of (Err NoTail) sent ≡ coded (record { frame = f; message = message }) sent
    no_path2 c e = settled_none _ _ (no_second_path f message (rw (whole f.table w.framed.shape) at (has_no_path c f.table.outputs (ap not e))))

  pub sent_by : {has1 has2 : Bool} {words1 words2 out : List ℕ} {t1 t2 : ℕ} →
      Coded f.table.next f.table.words f.first f.tail message has1 words1 → has1 ≡ true →
      Coded f.table.next f.table.words f.second f.tail (interleave 0 f.pattern message) has2 words2 → has2 ≡ true →
      t1 ≡ tail_of f.first f.tail → t2 ≡ tail_of f.second f.tail →
      out ≡ puncture (flags_under f.masks f.bits (t1 + t2)) (places_of f.bits t1 t2 words1 words2) →
      encode_result_of (Ok tt) out ≡ coded (record { frame = f; message = message }) sent
  unfolding flags tail1 tail2
  sent_by c e d g is1 is2 same =
      let one = rw (whole f.table w.framed.shape) at (has_path c f.table.outputs (ap not e)) in
      let two = rw (whole f.table w.framed.shape) at (has_path d f.table.outputs (ap not g)) in
      let bits = rw w.message_long at (bits_tested message w.bits) in
      rw (same, is1, is2) (settled_some _ _ (sent_by_words f message w.framed bits one two))
