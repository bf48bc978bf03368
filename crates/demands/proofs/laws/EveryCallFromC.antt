-- Demand 1 for callers in C, the proof: a number that stands for no end is refused before all else, and otherwise the number returned is that of the call.
-- Assumes nothing.
use Rattle.std.specs.Prelude.{Option, Some, None, ◌≡◌, refl, Bool, ℕ, ℤ, Err}
use Rattle.std.proofs.Math.Path.{ap}
use Rattle.std.proofs.Common.{⊎_elim, arith}
use Rattle.std.proofs.Math.Bool.{true, false}
use mathlib.Core.List.{List, [], ◌∷◌}
use Rattle.refusal.specs.declared.Refusal.TheVariants.{Shape}
use Rattle.refusal.specs.Refusals.{Reply, told, number_of, place_of, Check, ◌unless◌, check, ◌then◌, first_of}
use Rattle.refusal.specs.laws.Checks.{refused_is_not_done}
use Rattle.refusal.specs.laws.InTurn.{first_is_reply, reply_exactly}
use Rattle.refusal.specs.laws.Kept.{after_refusal}
use Rattle.trellis.specs.declared.End.{End}
use Rattle.trellis.specs.declared.End.TheVariants.{Zero}
use Rattle.siso.specs.Decode.{Call, Lent, checks, decode as lone_decode}
use Rattle.coder.specs.Coder.{EncodeCall, encode_checks, encode}
use Rattle.decoder.specs.Decoder.{DecodeCall, DecodeLent, decode_checks, decode}
use Rattle.capi.specs.Returned.{returned, indexed, end_of, for_ending, lone_returned, encode_returned, decode_returned, written_checks, written}
use Rattle.demands.specs.Called.{lone_numbers, coder_numbers, decoder_numbers, numbers_of, IsCall, lone_lists, frame_lists}
use Rattle.demands.specs.CalledFromC.{IsReturned, IsIndexed, EveryCallFromC}
use Rattle.demands.proofs.laws.EveryCall.{lone_numbered, coder_numbered, decoder_numbered, called_workless, every_call_is_answered}

-- ---- one more end

module _ {A : Type 0} {numbers : List ℕ} where
  -- one that stands for an end leaves the call as it is
  known : {cs : List Check} {reply : Reply} {lent left : A} {work work' : List ℤ} → IsCall numbers cs reply lent left work work' →
      IsCall (2 ∷ numbers) (Shape unless true ∷ cs) reply lent left work work'
  unfolding told first_of check ◌then◌
  known {cs} {reply} h = record {
    numbered = ap (λ (ns : List ℕ). 2 ∷ ns) h.numbered;
    replied = (reply_exactly (Shape unless true ∷ cs) reply).1 ((reply_exactly cs reply).0 h.replied);
    kept = h.kept;
    zeros = h.zeros;
    work_kept = h.work_kept;
  }

  -- any other refuses it
  unknown : (cs : List Check) (lent : A) (work : List ℤ) → numbers_of cs ≡ numbers →
      IsCall (2 ∷ numbers) (Shape unless false ∷ cs) (Err Shape) lent lent work work
  unfolding told number_of first_of check ◌then◌
  unknown cs lent work numbered = record {
    numbered = ap (λ (ns : List ℕ). 2 ∷ ns) numbered;
    replied = first_is_reply (Shape unless false ∷ cs);
    kept = λ h. refl;
    zeros = λ h. absurd (⊎_elim (λ e. refused_is_not_done e) (⊎_elim (λ e. omega arith) (λ e. omega arith)) h);
    work_kept = λ h. refl;
  }

-- ---- each entry

abbrev is_known : Option End → Bool
is_known g = for_ending g false (λ e. true)

abbrev given : Option End → End
given g = for_ending g Zero (λ e. e)

lone_by : (g : Option End) (c : End → Call) (l : Lent) →
    let x = for_ending g (indexed 2 0 l) (λ e. lone_returned (lone_decode (c e) l)) in
    IsIndexed (2 ∷ lone_numbers) (Shape unless is_known g ∷ checks (c (given g)) l) x.number x.index (lone_lists l) (lone_lists x.lists) l.work x.lists.work
unfolding for_ending told number_of place_of
lone_by None c l = record {
  is_returned = record { reply = Err Shape; call = unknown (checks (c Zero) l) (lone_lists l) l.work (lone_numbered (c Zero) l); told = refl };
  placed = refl;
}
lone_by (Some e) c l = record {
  is_returned = record { reply = (lone_decode (c e) l).reply; call = known (every_call_is_answered.lone (c e) l); told = refl };
  placed = refl;
}

coder_by : (g h : Option End) (c : End → End → EncodeCall) (sent : List ℕ) →
    let x = for_ending g (returned 2 sent) (λ e1. for_ending h (returned 2 sent) (λ e2. encode_returned (encode (c e1 e2) sent))) in
    IsReturned (2 ∷ 2 ∷ coder_numbers) (Shape unless is_known g ∷ Shape unless is_known h ∷ encode_checks (c (given g) (given h)) sent) x.number sent x.lists [] []
unfolding for_ending told number_of
coder_by None h c sent = record {
  reply = Err Shape;
  call = unknown (Shape unless is_known h ∷ encode_checks (c Zero (given h)) sent) sent [] (ap (λ (ns : List ℕ). 2 ∷ ns) (coder_numbered (c Zero (given h)) sent));
  told = refl;
}
coder_by (Some e1) None c sent = record {
  reply = Err Shape;
  call = known (unknown (encode_checks (c e1 Zero) sent) sent [] (coder_numbered (c e1 Zero) sent));
  told = refl;
}
coder_by (Some e1) (Some e2) c sent = record {
  reply = (encode (c e1 e2) sent).reply;
  call = known (known (every_call_is_answered.coder (c e1 e2) sent));
  told = refl;
}

frame_by_lem : (g h : Option End) (c : End → End → DecodeCall) (l : DecodeLent) →
    let x = for_ending g (indexed 2 0 l) (λ e1. for_ending h (indexed 2 0 l) (λ e2. decode_returned (decode (c e1 e2) l))) in
    IsIndexed (2 ∷ 2 ∷ decoder_numbers) (Shape unless is_known g ∷ Shape unless is_known h ∷ decode_checks (c (given g) (given h)) l) x.number x.index
    (frame_lists l) (frame_lists x.lists) l.work x.lists.work
unfolding for_ending told number_of place_of
frame_by_lem None h c l = record {
  is_returned = record {
    reply = Err Shape;
    call =
        unknown (Shape unless is_known h ∷ decode_checks (c Zero (given h)) l) (frame_lists l) l.work
        (ap (λ (ns : List ℕ). 2 ∷ ns) (decoder_numbered (c Zero (given h)) l));
    told = refl;
  };
  placed = refl;
}
frame_by_lem (Some e1) None c l = record {
  is_returned = record {
    reply = Err Shape;
    call = known (unknown (decode_checks (c e1 Zero) l) (frame_lists l) l.work (decoder_numbered (c e1 Zero) l));
    told = refl;
  };
  placed = refl;
}
frame_by_lem (Some e1) (Some e2) c l = record {
  is_returned = record { reply = (decode (c e1 e2) l).reply; call = known (known (every_call_is_answered.frame (c e1 e2) l)); told = refl };
  placed = refl;
}

written_numbered : (entries list : List ℕ) → numbers_of (written_checks entries list) ≡ 5 ∷ []
unfolding written_checks told
written_numbered entries list = refl

pub every_call_from_c_is_answered : EveryCallFromC
unfolding written
every_call_from_c_is_answered = record {
  lone = λ end c l. lone_by (end_of end) c l;
  coder = λ end1 end2 c sent. coder_by (end_of end1) (end_of end2) c sent;
  frame = λ end1 end2 c l. frame_by_lem (end_of end1) (end_of end2) c l;
  table = λ c l. record { reply = _; call = every_call_is_answered.table c l; told = refl };
  pattern = λ c list. record { reply = _; call = every_call_is_answered.pattern c list; told = refl };
  samples = λ s samples values. record { reply = _; call = every_call_is_answered.samples s samples values; told = refl };
  house = λ entries list. record {
    reply = first_of (written_checks entries list);
    call = called_workless (written_checks entries list) (written_numbered entries list) (λ h. after_refusal h _ _);
    told = refl;
  };
}
