-- Demand 3's statement for the frame decoder leaves nothing open: a call's passes are determined by it, and so are the reply and every list.
-- Assumes nothing.
use Rattle.std.specs.Prelude.{◌≡◌, ◌↔◌, List, ℕ, zero, suc, ◌-◌, ◌<◌, ℤ, pos, length, get_or, Ok, Err}
use Rattle.std.proofs.Math.Path.{sym}
use Rattle.std.proofs.Common.{ap, ◌∙◌, ⊎_elim, arith, ext_get_or}
use Rattle.std.proofs.Math.Decide.{dec_lt}
use Rattle.refusal.specs.declared.Refusal.{Refusal}
use Rattle.refusal.specs.Refusals.{Reply, first_of}
use Rattle.refusal.specs.laws.Checks.{refused_is_not_done}
use Rattle.trellis.specs.declared.End.{End}
use Rattle.trellis.specs.Path.{apriori_at}
use Rattle.frame.specs.Interleaver.{place}
use Rattle.frame.specs.laws.Interleaving.{Permutes}
use Rattle.frame.specs.Frame.{Frame, sections_of}
use Rattle.soft.specs.Soft.{hand_over, decided}
use Rattle.decoder.specs.Decoder.{channel1, channel2, DecodeCall, DecodeLent, DecodeResult, decode_lent_checks, decode}
use Rattle.decoder.specs.laws.Decodable.{Decodable, decodable}
use Rattle.frame.proofs.laws.Checked.{checked}
use Rattle.demands.specs.Decoding.{Pass, margin_at, extrinsic_at, IsPass, pattern_at, AreIterations, FrameListsWritten, FrameListsKept, BothPaths, EitherEmpty, IsDecoding}
use Rattle.demands.proofs.laws.Outcomes.{means_one}
use Rattle.demands.proofs.laws.Replies.{frame_ways}
use Rattle.demands.proofs.laws.EveryDecoding.{every_decoding_means}

-- ---- one pass

-- two passes read the same values and say the same of every position
record Same (f : Frame) (end : End) (p q : Pass) : Type 0 where
  values : p.values ≡ q.values
  said : (k : ℕ) → k < sections_of f end → p.said k ≡ q.said k

module _ (f : Frame) (end : End) (channel : List ℤ) (p q : Pass) (is-p : IsPass f end channel p) (is-q : IsPass f end channel q) where
  -- the a-priori values at message positions settle the rest
  same_pass : ((k : ℕ) → k < f.bits → apriori_at p.values k ≡ apriori_at q.values k) → Same f end p q
  same_pass h = record { values = values; said = said }
    where
      at : (k : ℕ) → k < sections_of f end → get_or p.values.apriori k (pos 0) ≡ get_or q.values.apriori k (pos 0)
      at k l = unfold apriori_at in elim (dec_lt k f.bits) [
        | yes m ↦ h k m
        | no m ↦ is-p.tail k (omega arith) l ∙ sym (is-q.tail k (omega arith) l)
      ]

      apriori : p.values.apriori ≡ q.values.apriori
      apriori = ext_get_or (pos 0) _ _ (is-p.long ∙ sym is-q.long) (λ k l. at k (omega (arith, is-p.long)))

      channels : p.values.channel ≡ q.values.channel
      channels = is-p.reads ∙ sym is-q.reads

      values : p.values ≡ q.values
      values = λ i. record { channel = channels i; apriori = apriori i }

      said : (k : ℕ) → k < sections_of f end → p.said k ≡ q.said k
      said k l = means_one f.table q.values end (sections_of f end) k _ _ (rw values at (is-p.means k l)) (is-q.means k l)

module _ (f : Frame) (end : End) (p q : Pass) (same : Same f end p q) (k : ℕ) (h : k < f.bits) where
  in_sections : k < sections_of f end
  in_sections = omega arith

  same_margin : margin_at p k ≡ margin_at q k
  unfolding margin_at
  same_margin = rw (same.said k in_sections)

  same_extrinsic : extrinsic_at f.table p k ≡ extrinsic_at f.table q k
  unfolding extrinsic_at
  same_extrinsic = rw (same.said k in_sections, same.values)

-- ---- all passes

module _ (f : Frame) (w : Permutes f.bits f.pattern) where
  in_pattern : (k : ℕ) → k < f.bits → pattern_at f k < f.bits
  unfolding pattern_at
  in_pattern k h = w.below k h

  -- every message position is some pattern(k)
  by_pattern : (P : ℕ → Type 0) → ((k : ℕ) → k < f.bits → P (pattern_at f k)) → (x : ℕ) → x < f.bits → P x
  unfolding pattern_at
  by_pattern P h x l = rw (w.at_place x l) at (h (place x f.pattern) (w.place_below x l))

  module _ (r : List ℤ) (n : ℕ) (a b c d : ℕ → Pass) (one : AreIterations f r n a b) (other : AreIterations f r n c d) where
    same_second : (i : ℕ) → i < n → Same f f.first (a i) (c i) → Same f f.second (b i) (d i)
    same_second i h same =
        same_pass f f.second (channel2 f r) (b i) (d i) (one.pass_2 i h) (other.pass_2 i h)
        (λ k l. one.hands_on i h k l ∙ ap hand_over (same_extrinsic f f.first (a i) (c i) same (pattern_at f k) (in_pattern k l)) ∙ sym (other.hands_on i h k l))

    same_first : (i : ℕ) → i < n → Same f f.first (a i) (c i)
    same_first zero h =
        same_pass f f.first (channel1 f r) (a 0) (c 0) (one.pass_1 0 h) (other.pass_1 0 h) (λ k l. one.starts k l ∙ sym (other.starts k l))
    same_first (suc i) h =
        let same = same_second i (omega arith) (same_first i (omega arith)) in
        same_pass f f.first (channel1 f r) (a (suc i)) (c (suc i)) (one.pass_1 (suc i) h) (other.pass_1 (suc i) h)
        (by_pattern (λ x. apriori_at (a (suc i)).values x ≡ apriori_at (c (suc i)).values x)
        (λ k l. one.hands_back i h k l ∙ ap hand_over (same_extrinsic f f.second (b i) (d i) same k l) ∙ sym (other.hands_back i h k l)))

    same_passes : (i : ℕ) → i < n → Same f f.second (b i) (d i)
    same_passes i h = same_second i h (same_first i h)

  -- ---- the lists

  same_list : {A : Type 0} (z : A) (xs ys : List A) → length xs ≡ f.bits → length ys ≡ f.bits →
      ((k : ℕ) → k < f.bits → get_or xs (pattern_at f k) z ≡ get_or ys (pattern_at f k) z) → xs ≡ ys
  same_list z xs ys long also h =
      ext_get_or z xs ys (long ∙ sym also) (λ x l. by_pattern (λ x. get_or xs x z ≡ get_or ys x z) h x (omega arith))

  same_written : (p q : Pass) → Same f f.second p q → (x y : DecodeLent) → FrameListsWritten f p x → FrameListsWritten f q y → FrameListsKept x y
  same_written p q same x y one other = record {
    bits = same_list 0 _ _ other.bits_long one.bits_long (λ k h. other.bit k h ∙ ap decided (sym (same_margin f f.second p q same k h)) ∙ sym (one.bit k h));
    margins =
        same_list (pos 0) _ _ other.margins_long one.margins_long (λ k h. other.margin k h ∙ sym (same_margin f f.second p q same k h) ∙ sym (one.margin k h));
    extrinsics =
        same_list (pos 0) _ _ other.extrinsics_long one.extrinsics_long
        (λ k h. other.extrinsic k h ∙ sym (same_extrinsic f f.second p q same k h) ∙ sym (one.extrinsic k h));
  }

-- ---- the whole call

module _ (c : DecodeCall) (l : DecodeLent) (known : Decodable c l) (x y : DecodeResult) (one : IsDecoding c l x) (other : IsDecoding c l y) where
  both_kept : (x.reply ≡ Ok tt → ⊥) → (y.reply ≡ Ok tt → ⊥) → FrameListsKept x.lists y.lists
  both_kept h g =
      let mine = one.kept h in
      let yours = other.kept g in
      record { bits = yours.bits ∙ sym mine.bits; margins = yours.margins ∙ sym mine.margins; extrinsics = yours.extrinsics ∙ sym mine.extrinsics }

  both_written : x.reply ≡ Ok tt → y.reply ≡ Ok tt → FrameListsKept x.lists y.lists
  both_written e f =
      let w = (checked c.frame known.framed).permutes in
      let same = same_passes c.frame w _ c.iterations _ _ _ _ one.iterations other.iterations (c.iterations - 1)
      (omega (arith, known.some_iteration)) in
      same_written c.frame w _ _ same x.lists y.lists (one.written e) (other.written f)

  same_replied : (x.reply ≡ y.reply) × FrameListsKept x.lists y.lists
  same_replied = ⊎_elim without_path (⊎_elim with_forced free) (frame_ways c.frame)
    where
      refused : {r : Reply} {n : Refusal} → r ≡ Err n → r ≡ Ok tt → ⊥
      refused e f = refused_is_not_done (sym e ∙ f)

      without_path : (BothPaths c.frame → ⊥) → (x.reply ≡ y.reply) × FrameListsKept x.lists y.lists
      without_path h =
          let e = one.no_path.1 h in
          let f = other.no_path.1 h in
          (e ∙ sym f, both_kept (refused e) (refused f))

      with_forced : BothPaths c.frame × EitherEmpty c.frame → (x.reply ≡ y.reply) × FrameListsKept x.lists y.lists
      with_forced h =
          let e = one.forced.1 h in
          let f = other.forced.1 h in
          (e ∙ sym f, both_kept (refused e) (refused f))

      free : BothPaths c.frame × (EitherEmpty c.frame → ⊥) → (x.reply ≡ y.reply) × FrameListsKept x.lists y.lists
      free h =
          let e = one.done.1 h in
          let f = other.done.1 h in
          (e ∙ sym f, both_written e f)

  same_result : x ≡ y
  same_result =
      let (reply, lists) = same_replied in
      let work : x.lists.work ≡ y.lists.work = one.cleared ∙ sym other.cleared in
      λ i. record {
        reply = reply i;
        lists = record { bits = sym lists.bits i; margins = sym lists.margins i; extrinsics = sym lists.extrinsics i; work = work i };
      }

-- of a call to which no number but 12 or 13 applies, the decoder's result is the only one that the statement allows
pub decoding_exactly : (c : DecodeCall) (l : DecodeLent) → first_of (decode_lent_checks c l) ≡ Ok tt → (x : DecodeResult) → IsDecoding c l x ↔ (x ≡ decode c l)
decoding_exactly c l passed x =
    let is = every_decoding_means c l passed in
    (λ h. same_result c l (decodable c l passed) x (decode c l) h is, λ e. rw e is)
