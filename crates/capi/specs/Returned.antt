-- What a program in another language gets back from a call: the reply's number, 0 where the call is done, the lists that it lent, and from the decoders the
-- index of the first value out of range. And which numbers stand for an end.
-- Assumes nothing.
use Rattle.std.specs.Prelude.{Option, Some, None, List, [], ◌∷◌, ℕ, zero, suc, eqb, Float, ℤ, length}
use Rattle.trellis.specs.declared.End.{End}
use Rattle.trellis.specs.declared.PassFormat.{PassFormat}
use Rattle.trellis.specs.declared.End.TheVariants.{Zero, Open, Ring}
use Rattle.refusal.specs.declared.Refusal.TheVariants.{Lists}
use Rattle.refusal.specs.Refusals.{number_of, place_of, Check, ◌unless◌, first_of, after}
use Rattle.taps.specs.Build.{TapsLent, TapsResult}
use Rattle.siso.specs.Decode.{Lent, Result}
use Rattle.polynomial.specs.Polynomial.{PatternResult}
use Rattle.frame.specs.declared.FrameFormat.{FrameFormat}
use Rattle.coder.specs.Coder.{EncodeResult}
use Rattle.decoder.specs.Decoder.{DecodeLent, DecodeResult}
use Rattle.samples.specs.declared.Channel.{Channel}
use Rattle.samples.specs.declared.Setting.{Setting}
use Rattle.samples.specs.Samples.{SampleResult}

pub record Returned (A : Type 0) : Type 0 where
  pub number : ℕ
  pub lists : A

abbrev pub returned : {A : Type 0} → ℕ → A → Returned A
returned n lists = record { number = n; lists = lists }

-- from the decoders also the index that 6 and 16 carry, 0 where there is none
pub record Indexed (A : Type 0) : Type 0 where
  pub number : ℕ
  pub index : ℕ
  pub lists : A

abbrev pub indexed : {A : Type 0} → ℕ → ℕ → A → Indexed A
indexed n i lists = record { number = n; index = i; lists = lists }

-- the results of the lone decoder, the coder, the frame decoder, the two builders and the values of samples, each with its reply told as a number
abbrev pub lone_returned : Result → Indexed Lent
lone_returned x = indexed (number_of x.reply) (place_of x.reply) x.lists

abbrev pub encode_returned : EncodeResult → Returned (List ℕ)
encode_returned x = returned (number_of x.reply) x.sent

abbrev pub decode_returned : DecodeResult → Indexed DecodeLent
decode_returned x = indexed (number_of x.reply) (place_of x.reply) x.lists

abbrev pub taps_returned : TapsResult → Returned TapsLent
taps_returned x = returned (number_of x.reply) x.lists

abbrev pub pattern_returned : PatternResult → Returned (List ℕ)
pattern_returned x = returned (number_of x.reply) x.pattern

abbrev pub samples_returned : SampleResult → Returned (List ℤ)
samples_returned x = returned (number_of x.reply) x.values

-- the end that a number stands for: 0 zero, 1 open, 2 ring
unfoldable pub end_of : ℕ → Option End
end_of zero = Some Zero
end_of (suc zero) = Some Open
end_of (suc (suc zero)) = Some Ring
end_of (suc (suc (suc n))) = None

module _ {A : Type 0} where
  -- what an end comes to, and what is left where there is none
  unfoldable pub for_ending : Option End → A → (End → A) → A
  for_ending None refused answer = refused
  for_ending (Some end) refused answer = answer end

  -- a call that carries one end as a number, and one that carries two: each number that stands for none refuses it, whatever else it is lent
  abbrev pub by_end : ℕ → A → (End → A) → A
  by_end n refused answer = for_ending (end_of n) refused answer

  abbrev pub by_ends : ℕ → ℕ → A → (End → End → A) → A
  by_ends n m refused answer = by_end n refused (λ first. by_end m refused (answer first))

-- what a pass is, from a call's numbers and its end
abbrev pub pass_format_of : ℕ → ℕ → ℕ → End → PassFormat
pass_format_of states outputs sections end = record { states = states; outputs = outputs; sections = sections; end = end }

-- what a frame is, from a call's numbers and its two ends
abbrev pub format_of : ℕ → ℕ → End → End → ℕ → ℕ → FrameFormat
format_of states outputs first second bits tail =
    record { states = states; outputs = outputs; bits = bits; tail = tail; first = first; second = second }

-- a radio's setting, from a call's scale and its channel
abbrev pub setting_of : Float → Channel → Setting
setting_of scale channel = record { scale = scale; channel = channel }

-- entries written to a list: 5 where it is not as long, and then it is as it was
unfoldable pub written_checks : List ℕ → List ℕ → List Check
written_checks entries list = Lists unless eqb (length list) (length entries) ∷ []

unfoldable pub written : List ℕ → List ℕ → Returned (List ℕ)
written entries list =
    let r = first_of (written_checks entries list) in
    returned (number_of r) (after r entries list)
