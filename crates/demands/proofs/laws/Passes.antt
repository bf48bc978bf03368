-- One pass of the frame decoder whose channel values and a-priori values agree with its coder's path: every extrinsic has the sign of its input
-- or is 0, and where every position is free and has a systematic value other than 0, every margin has its input's sign.
-- Assumes nothing.
use Rattle.std.specs.Prelude.{◌≡◌, ◌≢◌, false, List, ◌++◌, ℕ, ◌+◌, ◌*◌, ◌-◌, ◌<◌, eqb, ℤ, pos, ◌≤ℤ◌, length, replicate}
use Rattle.std.proofs.Math.Path.{ap}
use Rattle.std.proofs.Common.{◌∙◌, arith, get_or-append-add}
use Rattle.std.proofs.Math.Nat.{add-zero}
use Rattle.std.proofs.Math.Decide.{dec_lt}
use Rattle.std.proofs.Math.ListN.{get_or, get_or-append}
use Rattle.std.proofs.lemmas.List.{get_or-replicate}
use borrow.Author.Tests.{eqb-true}
use Rattle.lists.specs.laws.Listed.{listed_length}
use Rattle.lists.specs.laws.Tests.{and_left, and_right}
use Rattle.trellis.specs.declared.End.{End}
use Rattle.trellis.specs.Table.{systematic}
use Rattle.trellis.specs.Path.{Values, TrellisPath, apriori_at, channel_at, signed}
use Rattle.trellis.specs.Outcome.{forced, margins, extrinsics}
use Rattle.trellis.proofs.laws.RightSigned.{RightSigned}
use Rattle.frame.specs.Frame.{Frame, sections_of, tail_of, codes}
use Rattle.frame.proofs.laws.Checked.{Framed}
use Rattle.decoder.specs.Decoder.{pass}
use Rattle.demands.specs.Coded.{IsCoderPath}
use Rattle.demands.proofs.laws.RightPass.{extrinsic_signed, margin_signed}
use Rattle.demands.proofs.laws.RightPlaces.{ChannelAgrees, input_at}
use Rattle.demands.proofs.laws.Leaning.{Leans, Tells, zero_leans}

module _ (f : Frame) (framed : Framed f) {end : End} {inputs : List ℕ} {path : TrellisPath} (coder : IsCoderPath f end inputs path) {channel : List ℤ}
    (correct : ChannelAgrees f end path channel) {a : List ℤ} (told : Leans f.bits inputs a) where
  abbrev zeros : List ℤ
  zeros = replicate (tail_of end f.tail) (pos 0)

  abbrev values : Values
  values = record { channel = channel; apriori = a ++ zeros }

  -- what the pass is told; of the tail it is told nothing
  apriori_leans : (k : ℕ) → k < sections_of f end → pos 0 ≤ℤ signed (get_or path.bits k 0) (get_or (a ++ zeros) k (pos 0))
  apriori_leans k h = elim (dec_lt k f.bits) [
    | yes here ↦ rw (input_at coder k here, get_or-append a zeros (pos 0) k (omega (arith, told.long))) (told.signs k here)
    | no here ↦ rw (after (k - f.bits) (omega (arith, told.long)) (omega arith)) (zero_leans (get_or path.bits k 0))
  ]
    where
      after : (j : ℕ) → k ≡ length a + j → j < tail_of end f.tail → get_or (a ++ zeros) k (pos 0) ≡ pos 0
      after j e l = rw e (get_or-append-add a zeros j (pos 0) ∙ get_or-replicate (tail_of end f.tail) j (pos 0) (pos 0) l)

  two_outputs : f.table.outputs ≡ 2
  unfolding codes
  two_outputs = eqb-true f.table.outputs 2 (and_right (systematic f.table) (eqb f.table.outputs 2) framed.codes)

  channel_is : (k l : ℕ) → channel_at f.table values k l ≡ get_or channel (2 * k + l) (pos 0)
  unfolding channel_at
  channel_is k l = ap (λ (n : ℕ). get_or channel (n * k + l) (pos 0)) two_outputs

  right : RightSigned f.table values end (sections_of f end) path
  unfolding apriori_at
  right = record {
    path = coder.is_path;
    agrees = λ k h. record { apriori = apriori_leans k h; channel = λ l g. rw (channel_is k l) (correct.agrees k l h (omega (arith, two_outputs))) };
  }

  pub extrinsics_lean : Leans f.bits inputs (pass f end channel a).extrinsics
  unfolding pass extrinsics
  extrinsics_lean = record {
    long = listed_length _ f.bits;
    signs = λ k h.
        rw (input_at coder k h) at
        (extrinsic_signed f.table values end (sections_of f end) path right framed.shape framed.branches f.bits (omega arith) k h);
  }

  pub margins_tell : ((k : ℕ) → k < f.bits → forced f.table end (sections_of f end) k ≡ false) →
      ((k : ℕ) → k < f.bits → get_or channel (2 * k) (pos 0) ≢ pos 0) → Tells f.bits inputs (pass f end channel a).margins
  unfolding pass margins codes
  margins_tell free nonzero = record {
    long = listed_length _ f.bits;
    signs = λ k h.
        rw (input_at coder k h) at
        (margin_signed f.table values end (sections_of f end) path right framed.shape framed.branches f.bits (omega arith) k h
        (and_left _ _ framed.codes) (free k h) (rw (channel_is k 0, add-zero (2 * k)) (nonzero k h)));
  }
