-- Demand 2, as one statement about a whole call of the coder and a whole call of the frame decoder: if every received value of a coded frame that
-- the decoder accepts has its sent bit's sign or is zero, and every systematic value of the message is nonzero, the bits after each iteration
-- are the message.
-- Assumes nothing.
use Rattle.std.specs.Prelude.{◌≡◌, List, ℕ, ◌+◌, ℤ, pos, Ok}
use Rattle.std.proofs.Common.{sym, subst, ◌∙◌}
use Rattle.refusal.specs.Refusals.{after}
use Rattle.frame.specs.Frame.{Frame, tail1, tail2, sections2, frame_length, flags, spread}
use Rattle.frame.specs.laws.Flags.{flags_set}
use Rattle.frame.proofs.laws.Checked.{Framed, checked}
use Rattle.coder.specs.Coder.{EncodeCall, encode, places}
use Rattle.decoder.specs.Decoder.{DecodeCall, DecodeLent, decode_settled, decode}
use Rattle.decoder.specs.laws.Decodable.{done_is}
use Rattle.demands.specs.Coded.{IsFrame}
use Rattle.demands.specs.Message.{IsRightSigned}
use Rattle.demands.proofs.laws.EveryFrame.{every_frame_means}
use Rattle.demands.proofs.laws.Received.{spread_signed}
use Rattle.demands.proofs.laws.RightPlaces.{HasRightPlaces}
use Rattle.demands.proofs.laws.RightIterations.{bits_are_the_message}

right_places : (f : Frame) (message sent : List ℕ) (received : List ℤ) → Framed f → IsFrame f message sent → IsRightSigned f sent received →
    HasRightPlaces f message (spread (pos 0) (flags f) received)
unfolding flags frame_length
right_places f message sent received framed frame right =
    let known = checked f framed in
    record {
      framed = framed;
      first = frame.first;
      second = frame.second;
      first_coder = frame.first_coder;
      second_coder = frame.second_coder;
      signs =
          spread_signed (flags f) (places f frame.first frame.second) sent received
          (frame.long ∙ sym (flags_set f.masks known.some_mask known.small_masks f.bits (tail1 f + tail2 f))) frame.in_place right.signs;
    }

-- for every number of iterations that the decoder accepts
pub right_signed_gives_the_message : (c : EncodeCall) (sent : List ℕ) → (encode c sent).reply ≡ Ok tt → (d : DecodeCall) (l : DecodeLent) →
    d.frame ≡ c.frame → IsRightSigned c.frame (encode c sent).sent d.received → (decode d l).reply ≡ Ok tt →
    (decode d l).lists.bits ≡ c.message
unfolding decode decode_settled after sections2 tail2
right_signed_gives_the_message c sent coded d l same right done =
    let (known, walks) = done_is d l done in
    let frame = subst (λ (f : Frame). IsFrame f c.message (encode c sent).sent) (sym same) (every_frame_means c sent coded) in
    let rights = subst (λ (f : Frame). IsRightSigned f (encode c sent).sent d.received) (sym same) right in
    let correct = right_places d.frame c.message (encode c sent).sent d.received known.framed frame rights in
    rw done (bits_are_the_message correct walks.free2 rights.told d.iterations)
