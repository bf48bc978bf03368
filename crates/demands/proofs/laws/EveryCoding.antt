-- Demand 2's statement for the coder leaves nothing open: a frame for a message is determined by it, and so are the reply and the list.
-- Assumes nothing.
use Rattle.std.specs.Prelude.{◌≡◌, refl, ◌↔◌, Bool, true, false, cond, List, ℕ, ◌+◌, length, get_or, Ok}
use Rattle.std.proofs.Math.Path.{sym}
use Rattle.std.proofs.Common.{ap, ap₂, ◌∙◌, ext_get_or}
use Rattle.std.proofs.Math.Option.{some-injective}
use Rattle.lists.specs.Lists.{found, count}
use Rattle.refusal.specs.Refusals.{first_of}
use Rattle.refusal.specs.laws.Checks.{refused_is_not_done}
use Rattle.trellis.specs.declared.End.{End}
use Rattle.trellis.specs.Path.{TrellisPath}
use Rattle.trellis.specs.laws.Branches.{shaped_is}
use Rattle.frame.specs.Frame.{Frame, tail1, tail2, frame_length, flags, spread}
use Rattle.frame.specs.laws.Flags.{flags_set}
use Rattle.frame.specs.laws.Puncturing.{spread_length, spread_injective}
use Rattle.frame.proofs.laws.Checked.{Framed, checked}
use Rattle.coder.specs.Coder.{places, sent_for, EncodeCall, EncodeResult, encode_lent_checks, encode}
use Rattle.coder.specs.laws.Encoded.{codable}
use Rattle.demands.specs.Coded.{IsCoderPath, IsFrame, BothOwnPaths, IsCoding}
use Rattle.demands.proofs.laws.Told.{Tells}
use Rattle.demands.proofs.laws.CoderPaths.{coder_path_exactly}
use Rattle.demands.proofs.laws.EveryFrame.{both_own_told, every_coding_means}

-- ---- one frame for a message

module _ (f : Frame) (framed : Framed f) where
  -- a coder's path is the one that it takes
  path_only : (end : End) (xs : List ℕ) (p q : TrellisPath) → IsCoderPath f end xs p → IsCoderPath f end xs q → p ≡ q
  path_only end xs p q one other =
      let exactly = coder_path_exactly f (shaped_is f.table framed.shape).some_state xs one.own end in
      some-injective p q (sym ((exactly p).1 one) ∙ (exactly q).1 other)

  frame_long : (message sent : List ℕ) → IsFrame f message sent → length sent ≡ count (λ (b : Bool). b) (flags f)
  unfolding flags frame_length
  frame_long message sent is =
      let known = checked f framed in
      is.long ∙ sym (flags_set f.masks known.some_mask known.small_masks f.bits (tail1 f + tail2 f))

  -- the places agree, so the lists do
  pub frame_only : (message xs ys : List ℕ) → IsFrame f message xs → IsFrame f message ys → xs ≡ ys
  frame_only message xs ys one other =
      spread_injective 0 (flags f) xs ys (frame_long message xs one) (frame_long message ys other)
      (ext_get_or 0 _ _ (spread_length 0 (flags f) xs ∙ sym (spread_length 0 (flags f) ys)) (λ i l. at i))
    where
      same : places f one.first one.second ≡ places f other.first other.second
      same =
          ap₂ (places f)
          (path_only f.first _ _ _ one.first_coder other.first_coder)
          (path_only f.second _ _ _ one.second_coder other.second_coder)

      at : (i : ℕ) → get_or (spread 0 (flags f) xs) i 0 ≡ get_or (spread 0 (flags f) ys) i 0
      at i = one.in_place i ∙ ap (λ (bits : List ℕ). cond (get_or (flags f) i false) (get_or bits i 0) 0) same ∙ sym (other.in_place i)

-- ---- the whole call

module _ (c : EncodeCall) (sent : List ℕ) (passed : first_of (encode_lent_checks c sent) ≡ Ok tt) (x y : EncodeResult)
    (one : IsCoding c sent x) (other : IsCoding c sent y) where
  same_replied : (x.reply ≡ y.reply) × (x.sent ≡ y.sent)
  same_replied = go (found (sent_for c.frame c.message)) (both_own_told c sent passed)
    where
      go : (b : Bool) → Tells b (BothOwnPaths c) → (x.reply ≡ y.reply) × (x.sent ≡ y.sent)
      go true t =
          let e = one.done.1 (t.yes refl) in
          let f = other.done.1 (t.yes refl) in
          (e ∙ sym f, frame_only c.frame (codable c sent passed).framed c.message _ _ (one.written e) (other.written f))
      go false t =
          let e = one.no_tail_lem.1 (t.no refl) in
          let f = other.no_tail_lem.1 (t.no refl) in
          (e ∙ sym f, one.kept (λ d. refused_is_not_done (sym e ∙ d)) ∙ sym (other.kept (λ d. refused_is_not_done (sym f ∙ d))))

  same_result : x ≡ y
  same_result =
      let (reply, list) = same_replied in
      λ i. record { reply = reply i; sent = list i }

-- of a call to which no number but 14 applies, the coder's result is the only one that the statement allows
pub coding_exactly : (c : EncodeCall) (sent : List ℕ) → first_of (encode_lent_checks c sent) ≡ Ok tt → (x : EncodeResult) → IsCoding c sent x ↔ (x ≡ encode c sent)
coding_exactly c sent passed x =
    let is = every_coding_means c sent passed in
    (λ h. same_result c sent passed x (encode c sent) h is, λ e. rw e is)
