-- Demand 3 for the frame decoder, the proof: whatever is lent, a call to which no number but 12 or 13 applies is a whole decoding.
-- Assumes nothing.
use Rattle.std.specs.Prelude.{◌≡◌, refl, false, List, ◌++◌, map, ℤ, negsuc, Ok}
use Rattle.std.proofs.Math.Path.{ap}
use Rattle.std.proofs.Common.{◌∙◌, inr, length-append, get_or-append-add}
use Rattle.std.proofs.Math.Option.{some, Option-elim}
use Prim.Native.Nat.{ℕ, zero, suc, ◌+◌, ◌-◌, ◌≤◌, ◌<◌}
use native.Mathlib.Omega.{arith}
use Rattle.std.proofs.Math.IntN.{pos}
use Rattle.std.proofs.Math.ListN.{length, get_or, replicate, length-replicate, get_or-replicate, get_or-append, get_or-map}
use Rattle.integers.specs.Integers.{max_ℤ, min_ℤ, limited}
use Rattle.lists.specs.laws.Listed.{listed_at}
use Rattle.refusal.specs.Refusals.{first_of}
use Rattle.trellis.specs.declared.End.{End}
use Rattle.trellis.specs.declared.Outcome.TheVariants.{Free}
use Rattle.trellis.specs.Path.{Values, apriori_at}
use Rattle.trellis.specs.Outcome.{outcome, forced, margin, margins, extrinsics}
use Rattle.trellis.proofs.laws.Emptiness.{outcome_is_free}
use Rattle.frame.specs.Interleaver.{deinterleave}
use Rattle.frame.specs.laws.Interleaving.{Permutes}
use Rattle.frame.proofs.laws.Interleaving.{interleave_at, deinterleave_at, interleave_length, deinterleave_length}
use Rattle.frame.specs.Frame.{Frame, sections_of, tail_of, flags, spread}
use Rattle.soft.specs.Soft.{hand_over, decided}
use Rattle.decoder.specs.Decoder.{channel1, channel2, Soft, pass, hand_on, hand_back, handed_on, iteration, prior_after, last_pass, decoded_pass}
use Rattle.decoder.specs.laws.Decodable.{decodable}
use Rattle.frame.proofs.laws.Checked.{checked}
use Rattle.decoder.specs.Decoder.{DecodeCall, DecodeLent, decode_lent_checks, decode_settled, decode}
use Rattle.demands.specs.Decoding.{Pass, margin_at, extrinsic_at, IsPass, pattern_at, AreIterations, FrameListsWritten, EitherEmpty, IsDecoding}
use Rattle.demands.proofs.laws.Outcomes.{outcome_means, margin_written, extrinsic_written}
use Rattle.refusal.specs.laws.Kept.{after_done}
use Rattle.demands.proofs.laws.Replies.{unforced, decode_says, decode_clears, decode_keeps}

-- ---- one pass

-- the pass by an end over these channel values and K a-priori values
pass_over : Frame → End → List ℤ → List ℤ → Pass
pass_over f end channel a =
    let v : Values = record { channel = channel; apriori = a ++ replicate (tail_of end f.tail) (pos 0) } in
    record { values = v; said = outcome f.table v end (sections_of f end) }

module _ (f : Frame) (end : End) (channel a : List ℤ) where
  pass_margin_at : (k : ℕ) (d : ℤ) → k < f.bits → get_or (pass f end channel a).margins k d ≡ margin_at (pass_over f end channel a) k
  unfolding pass margins margin_at pass_over
  pass_margin_at k d h = listed_at _ f.bits k d h ∙ margin_written f.table _ end (sections_of f end) k

  pass_extrinsic_at : (k : ℕ) (d : ℤ) → k < f.bits → get_or (pass f end channel a).extrinsics k d ≡ extrinsic_at f.table (pass_over f end channel a) k
  unfolding pass extrinsics extrinsic_at pass_over
  pass_extrinsic_at k d h = listed_at _ f.bits k d h ∙ extrinsic_written f.table _ end (sections_of f end) k

  -- a position that isn't forced, where there is a path, is free
  pass_free_at : (k : ℕ) → forced f.table end (sections_of f end) k ≡ false → (pass_over f end channel a).said k ≡ some (Free (margin_at (pass_over f end channel a) k))
  unfolding margin_at pass_over Option-elim margin
  pass_free_at k e = let (m, is_free) = (outcome_is_free f.table end (sections_of f end) k (pass_over f end channel a).values).1 e in rw is_free

  module _ (long : length a ≡ f.bits) where
    apriori_at_lem : (k : ℕ) → k < f.bits → apriori_at (pass_over f end channel a).values k ≡ get_or a k (pos 0)
    unfolding apriori_at pass_over
    apriori_at_lem k h = get_or-append a (replicate (tail_of end f.tail) (pos 0)) (pos 0) k (omega arith)

    is_pass : IsPass f end channel (pass_over f end channel a)
    unfolding pass_over apriori_at
    is_pass = record {
      reads = refl;
      long = simp (length-append, length-replicate) (omega arith);
      tail = tail;
      means = λ k h. outcome_means f.table _ end (sections_of f end) k;
    }
      where
        tail : (k : ℕ) → f.bits ≤ k → k < sections_of f end → get_or (a ++ replicate (tail_of end f.tail) (pos 0)) k (pos 0) ≡ pos 0
        tail k h l =
            let e : k ≡ length a + (k - f.bits) = omega arith in
            rw e (get_or-append-add a (replicate (tail_of end f.tail) (pos 0)) (k - f.bits) (pos 0) ∙ get_or-replicate (tail_of end f.tail) (k - f.bits) (pos 0) (pos 0) (omega arith))

-- ---- all passes

hand_over_at : (xs : List ℤ) (k : ℕ) → get_or (map hand_over xs) k (pos 0) ≡ hand_over (get_or xs k (pos 0))
unfolding hand_over limited max_ℤ min_ℤ
hand_over_at xs k = get_or-map hand_over xs k (pos 0)

module _ (f : Frame) (r : List ℤ) (w : Permutes f.bits f.pattern) where
  -- the a-priori values of pass 1 after i iterations
  abbrev prior : ℕ → List ℤ
  prior i = prior_after f (channel1 f r) (channel2 f r) (replicate f.bits (pos 0)) i

  first_pass : ℕ → Pass
  first_pass i = pass_over f f.first (channel1 f r) (prior i)

  second_pass : ℕ → Pass
  second_pass i = pass_over f f.second (channel2 f r) (handed_on f (channel1 f r) (prior i))

  prior_long : (i : ℕ) → length (prior i) ≡ f.bits
  unfolding prior_after hand_back
  prior_long zero = length-replicate f.bits (pos 0)
  prior_long (suc i) = deinterleave_length (pos 0) f.bits f.pattern w _

  handed_long : (s : Soft) → length (hand_on f s) ≡ f.bits
  unfolding hand_on
  handed_long s = interleave_length (pos 0) f.bits f.pattern w _

  on_at : (s : Soft) (k : ℕ) → k < f.bits → get_or (hand_on f s) k (pos 0) ≡ hand_over (get_or s.extrinsics (pattern_at f k) (pos 0))
  unfolding hand_on pattern_at
  on_at s k h = interleave_at (pos 0) f.bits f.pattern w _ k h ∙ hand_over_at s.extrinsics (get_or f.pattern k 0)

  back_at : (s : Soft) (k : ℕ) → k < f.bits → get_or (hand_back f s) (pattern_at f k) (pos 0) ≡ hand_over (get_or s.extrinsics k (pos 0))
  unfolding hand_back pattern_at
  back_at s k h = deinterleave_at (pos 0) f.bits f.pattern w _ k h ∙ hand_over_at s.extrinsics k

  in_pattern : (k : ℕ) → k < f.bits → pattern_at f k < f.bits
  unfolding pattern_at
  in_pattern k h = w.below k h

  -- the a-priori values of the very first pass, of a pass 2 and of any later pass 1
  starts_at : (k : ℕ) → k < f.bits → apriori_at (first_pass 0).values k ≡ pos 0
  unfolding first_pass prior_after
  starts_at k h = apriori_at_lem f f.first (channel1 f r) _ (prior_long 0) k h ∙ get_or-replicate f.bits k (pos 0) (pos 0) h

  on_at_pass : (i k : ℕ) → k < f.bits → apriori_at (second_pass i).values k ≡ hand_over (extrinsic_at f.table (first_pass i) (pattern_at f k))
  unfolding first_pass second_pass handed_on
  on_at_pass i k h =
      apriori_at_lem f f.second (channel2 f r) _ (handed_long _) k h
      ∙ on_at (pass f f.first (channel1 f r) (prior i)) k h
      ∙ ap hand_over (pass_extrinsic_at f f.first (channel1 f r) (prior i) (pattern_at f k) (pos 0) (in_pattern k h))

  back_at_pass : (i k : ℕ) → k < f.bits → apriori_at (first_pass (suc i)).values (pattern_at f k) ≡ hand_over (extrinsic_at f.table (second_pass i) k)
  unfolding first_pass second_pass prior_after iteration
  back_at_pass i k h =
      apriori_at_lem f f.first (channel1 f r) _ (prior_long (suc i)) (pattern_at f k) (in_pattern k h)
      ∙ back_at (iteration f (channel1 f r) (channel2 f r) (prior i)) k h
      ∙ ap hand_over (pass_extrinsic_at f f.second (channel2 f r) _ k (pos 0) h)

  are_iterations : (n : ℕ) → AreIterations f r n first_pass second_pass
  unfolding first_pass second_pass handed_on
  are_iterations n = record {
    pass_1 = λ i h. is_pass f f.first (channel1 f r) (prior i) (prior_long i);
    pass_2 = λ i h. is_pass f f.second (channel2 f r) _ (handed_long _);
    starts = starts_at;
    hands_on = λ i h. on_at_pass i;
    hands_back = λ i h. back_at_pass i;
  }

  -- ---- the lists of the last pass 2

  lists_written : (n : ℕ) (l : DecodeLent) → ((k : ℕ) → k < f.bits → forced f.table f.second (sections_of f f.second) k ≡ false) →
      l.bits ≡ deinterleave 0 f.pattern (map decided (decoded_pass f r n).margins) →
      l.margins ≡ deinterleave (pos 0) f.pattern (decoded_pass f r n).margins →
      l.extrinsics ≡ deinterleave (pos 0) f.pattern (decoded_pass f r n).extrinsics → FrameListsWritten f (second_pass (n - 1)) l
  unfolding last_pass iteration pattern_at second_pass decided
  lists_written n l free bits margins extrinsics =
      let a = handed_on f (channel1 f r) (prior (n - 1)) in
      let s = pass f f.second (channel2 f r) a in
      record {
        bits_long = rw bits (deinterleave_length 0 f.bits f.pattern w _);
        margins_long = rw margins (deinterleave_length (pos 0) f.bits f.pattern w _);
        extrinsics_long = rw extrinsics (deinterleave_length (pos 0) f.bits f.pattern w _);
        free = λ k h. pass_free_at f f.second (channel2 f r) a k (free k h);
        bit = λ k h.
            rw bits
            (deinterleave_at 0 f.bits f.pattern w _ k h
            ∙ get_or-map decided s.margins k (negsuc 0)
            ∙ ap decided (pass_margin_at f f.second (channel2 f r) a k (negsuc 0) h));
        margin = λ k h. rw margins (deinterleave_at (pos 0) f.bits f.pattern w _ k h ∙ pass_margin_at f f.second (channel2 f r) a k (pos 0) h);
        extrinsic = λ k h. rw extrinsics (deinterleave_at (pos 0) f.bits f.pattern w _ k h ∙ pass_extrinsic_at f f.second (channel2 f r) a k (pos 0) h);
      }

-- ---- the whole call

module _ (c : DecodeCall) (l : DecodeLent) where
  -- the value of every place: an unsent one is received as 0
  abbrev values : List ℤ
  values = spread (pos 0) (flags c.frame) c.received

  last_written : (w : Permutes c.frame.bits c.frame.pattern) → (EitherEmpty c.frame → ⊥) → (decode c l).reply ≡ Ok tt →
      FrameListsWritten c.frame (second_pass c.frame values w (c.iterations - 1)) (decode c l).lists
  unfolding decode decode_settled
  last_written w h e =
      lists_written c.frame values w c.iterations (decode c l).lists (unforced c.frame c.frame.second (λ e. h (inr e))) (after_done e _ _) (after_done e _ _) (after_done e _ _)

  -- whatever is lent: a call to which no number but 12 or 13 applies is a whole decoding
  pub every_decoding_means : first_of (decode_lent_checks c l) ≡ Ok tt → IsDecoding c l (decode c l)
  every_decoding_means passed =
      let w = (checked c.frame (decodable c l passed).framed).permutes in
      let says = decode_says c l passed in
      record {
        first = first_pass c.frame values w;
        second = second_pass c.frame values w;
        iterations = are_iterations c.frame values w c.iterations;
        no_path = says.no_path;
        forced = says.forced;
        done = says.done;
        written = λ e. last_written w (says.done.0 e).1 e;
        kept = decode_keeps c l;
        cleared = decode_clears c l passed;
      }
