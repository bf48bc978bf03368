-- Demand 1 for callers in C, the statement: the same, with the reply told as a number, an end given as one, and the house table's two lists.
-- Assumes nothing.
use Rattle.std.specs.Prelude.{◌≡◌, true, false, List, [], ◌∷◌, ℕ, Float, ℤ, length}
use Rattle.refusal.specs.declared.Refusal.TheVariants.{Shape}
use Rattle.refusal.specs.Refusals.{Reply, number_of, place_of, Check, ◌unless◌}
use Rattle.trellis.specs.declared.End.{End}
use Rattle.trellis.specs.declared.End.TheVariants.{Zero}
use Rattle.taps.specs.Build.{TapsCall, TapsLent, taps_checks, taps_built}
use Rattle.polynomial.specs.Polynomial.{PatternCall, pattern_checks, pattern_built}
use Rattle.siso.specs.Decode.{Call, Lent, checks, decode as lone_decode}
use Rattle.coder.specs.Coder.{EncodeCall, encode_checks, encode}
use Rattle.decoder.specs.Decoder.{DecodeCall, DecodeLent, decode_checks, decode}
use Rattle.samples.specs.declared.Setting.{Setting}
use Rattle.samples.specs.Samples.{sample_checks, sample_values}
use Rattle.capi.specs.Returned.{returned, indexed, by_end, by_ends, lone_returned, encode_returned, decode_returned, taps_returned, pattern_returned, samples_returned, written_checks, written}
use Rattle.demands.specs.Called.{lone_numbers, coder_numbers, decoder_numbers, taps_numbers, pattern_numbers, sample_numbers, IsCall, lone_lists, frame_lists, table_lists}

-- a number that stands for no end is refused by 2, before all else. (The end that is put in its place is looked at by no check that counts.)
abbrev pub end_check : ℕ → Check
end_check n = Shape unless by_end n false (λ e. true)

abbrev pub end_given : ℕ → End
end_given n = by_end n Zero (λ e. e)

-- the number returned is that of the reply to a call
pub record IsReturned {A : Type 0} (numbers : List ℕ) (cs : List Check) (number : ℕ) (lent left : A) (work work' : List ℤ) : Type 0 where
  pub reply : Reply
  pub call : IsCall numbers cs reply lent left work work'
  pub told : number ≡ number_of reply

-- and the index beside it, from the decoders
pub record IsIndexed {A : Type 0} (numbers : List ℕ) (cs : List Check) (number index : ℕ) (lent left : A) (work work' : List ℤ) : Type 0 where
  pub is_returned : IsReturned numbers cs number lent left work work'
  pub placed : index ≡ place_of is_returned.reply

-- whatever is lent. What a call is for each end is a function of its ends; what comes of it is that of include/turbo.h's functions, by their contracts
pub record EveryCallFromC : Type 0 where
  pub lone : (end : ℕ) (c : End → Call) (l : Lent) →
      let x = by_end end (indexed 2 0 l) (λ e. lone_returned (lone_decode (c e) l)) in
      IsIndexed (2 ∷ lone_numbers) (end_check end ∷ checks (c (end_given end)) l) x.number x.index (lone_lists l) (lone_lists x.lists) l.work x.lists.work
  pub coder : (end1 end2 : ℕ) (c : End → End → EncodeCall) (sent : List ℕ) →
      let x = by_ends end1 end2 (returned 2 sent) (λ e1 e2. encode_returned (encode (c e1 e2) sent)) in
      IsReturned (2 ∷ 2 ∷ coder_numbers) (end_check end1 ∷ end_check end2 ∷ encode_checks (c (end_given end1) (end_given end2)) sent) x.number sent x.lists [] []
  pub frame : (end1 end2 : ℕ) (c : End → End → DecodeCall) (l : DecodeLent) →
      let x = by_ends end1 end2 (indexed 2 0 l) (λ e1 e2. decode_returned (decode (c e1 e2) l)) in
      IsIndexed (2 ∷ 2 ∷ decoder_numbers) (end_check end1 ∷ end_check end2 ∷ decode_checks (c (end_given end1) (end_given end2)) l) x.number x.index
      (frame_lists l) (frame_lists x.lists) l.work x.lists.work
  pub table : (c : TapsCall) (l : TapsLent) →
      let x = taps_returned (taps_built c l) in
      IsReturned taps_numbers (taps_checks c l) x.number (table_lists l) (table_lists x.lists) [] []
  pub pattern : (c : PatternCall) (list : List ℕ) →
      let x = pattern_returned (pattern_built c list) in
      IsReturned pattern_numbers (pattern_checks c (length list)) x.number list x.lists [] []
  pub samples : (s : Setting) (samples : List Float) (values : List ℤ) →
      let x = samples_returned (sample_values s samples values) in
      IsReturned sample_numbers (sample_checks s samples (length values)) x.number values x.lists [] []
  pub house : (entries list : List ℕ) →
      let x = written entries list in
      IsReturned (5 ∷ []) (written_checks entries list) x.number list x.lists [] []
