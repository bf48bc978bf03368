-- Demand 2 for the coder, the proof: whatever is lent, a call to which no number but 14 applies is a whole coding. What is written is a frame whose
-- places hold the bits of two paths, over the message and over the message in the pattern's order, each the path of its coder by its end.
-- Assumes nothing.
use Rattle.std.specs.Prelude.{◌≡◌, ◌↔◌, Bool, false, ◌&&◌, List, [], ◌∷◌, ◌++◌, ℕ, ◌+◌, length, Ok, Err}
use Rattle.std.proofs.Math.Path.{refl}
use Rattle.std.proofs.Common.{sym, ◌∙◌, arith, length-append}
use Rattle.std.proofs.Math.Bool.{true}
use Rattle.std.proofs.lemmas.Bool.{false≢true}
use Rattle.std.proofs.Math.Option.{Option, none, some, map, bind, bind-eq-some_iff, map-eq-some_iff}
use Rattle.lists.specs.Lists.{joined, found}
use Rattle.lists.specs.laws.Listed.{joined_length}
use Rattle.refusal.specs.declared.Refusal.TheVariants.{NoTail}
use Rattle.refusal.specs.Refusals.{check, ◌then◌, first_of, after}
use Rattle.refusal.specs.laws.Checks.{refused_is_not_done}
use Rattle.refusal.specs.laws.InTurn.{first_passes, both_done, Each, each_holds}
use Rattle.refusal.specs.laws.Kept.{after_refusal}
use Rattle.trellis.specs.Path.{TrellisPath}
use Rattle.trellis.specs.Best.{IsBits}
use Rattle.trellis.specs.laws.Branches.{shaped_is}
use Rattle.frame.specs.Interleaver.{interleave}
use Rattle.frame.specs.Frame.{Frame, tail1, tail2, frame_length, flags, puncture}
use Rattle.frame.specs.laws.Flags.{flags_length, flags_set}
use Rattle.frame.specs.laws.Puncturing.{puncture_length, spread_punctured}
use Rattle.coder.specs.Coder.{parity_at, section_at, places, coded_path, sent_for, EncodeCall, encode_lent_checks, encode_path_checks, encode_checks, encode_settled, encode}
use Rattle.coder.specs.laws.Bits.{bits_tested, bits_interleaved}
use Rattle.frame.proofs.laws.Checked.{checked}
use Rattle.coder.specs.laws.Encoded.{codable}
use Rattle.demands.specs.Coded.{IsFrame, BothOwnPaths, IsCoding}
use Rattle.demands.proofs.laws.Told.{Tells}
use Rattle.demands.proofs.laws.CoderPaths.{coder_path_lem, own_told}

places_long : (f : Frame) (p q : TrellisPath) → length (places f p q) ≡ length (flags f)
unfolding places flags section_at
places_long f p q =
    let position : ℕ → List ℕ = λ k. section_at f.table p k ++ (parity_at f.table q k ∷ []) in
    let tail : TrellisPath → ℕ → List ℕ = λ r j. section_at f.table r (f.bits + j) in
    omega (
      arith,
      length-append (joined position f.bits ++ joined (tail p) (tail1 f)) (joined (tail q) (tail2 f)),
      length-append (joined position f.bits) (joined (tail p) (tail1 f)),
      joined_length position 3 (λ k. refl) f.bits,
      joined_length (tail p) 2 (λ k. refl) (tail1 f),
      joined_length (tail q) 2 (λ k. refl) (tail2 f),
      flags_length f.masks f.bits (tail1 f + tail2 f),
    )

module _ (c : EncodeCall) (sent : List ℕ) where
  -- a call that is done passed the checks, and both coders have a path
  done_is : (encode c sent).reply ≡ Ok tt → (first_of (encode_lent_checks c sent) ≡ Ok tt) × (found (sent_for c.frame c.message) ≡ true)
  unfolding encode encode_settled encode_checks encode_path_checks Each
  done_is e = let (x, y) = both_done (encode_lent_checks c sent) (encode_path_checks c) e in (x, (each_holds (encode_path_checks c) y).0)

  frame_of_lem : (p q : TrellisPath) → first_of (encode_lent_checks c sent) ≡ Ok tt → coded_path c.frame.table c.frame.first c.frame.tail c.message ≡ some p →
      coded_path c.frame.table c.frame.second c.frame.tail (interleave 0 c.frame.pattern c.message) ≡ some q →
      IsFrame c.frame c.message (puncture (flags c.frame) (places c.frame p q))
  unfolding flags frame_length
  frame_of_lem p q e first second =
      let f = c.frame in
      let lent = codable c sent e in
      let known = checked f lent.framed in
      let bits : IsBits f.bits c.message = rw lent.message_long at (bits_tested c.message lent.bits) in
      let same = places_long f p q in
      let some_state = (shaped_is f.table lent.framed.shape).some_state in
      record {
        first = p;
        second = q;
        first_coder = coder_path_lem f some_state c.message bits f.first p first;
        second_coder = coder_path_lem f some_state (interleave 0 f.pattern c.message) (bits_interleaved known.permutes bits) f.second q second;
        long = puncture_length (flags f) (places f p q) same ∙ flags_set f.masks known.some_mask known.small_masks f.bits (tail1 f + tail2 f);
        in_place = λ i. spread_punctured 0 (flags f) (places f p q) i same;
      }

  -- whatever is lent: where the call is done, the list holds a frame for the message
  pub every_frame_means : (encode c sent).reply ≡ Ok tt → IsFrame c.frame c.message (encode c sent).sent
  unfolding found encode encode_settled after sent_for
  every_frame_means e = go (sent_for c.frame c.message) refl (done_is e).1
    where
      go : (o : Option (List ℕ)) → sent_for c.frame c.message ≡ o → found o ≡ true → IsFrame c.frame c.message (encode c sent).sent
      go none d found_it = absurd (false≢true found_it)
      go (some frame) d found_it =
          let f = c.frame in
          let (p, first, rest) = (bind-eq-some_iff (coded_path f.table f.first f.tail c.message) _).0 d in
          let (q, second, frame_is) = (map-eq-some_iff _ (coded_path f.table f.second f.tail (interleave 0 f.pattern c.message))).0 rest in
          rw (e, d, ← frame_is) (frame_of_lem p q (done_is e).0 first second)

  -- where it is not, the list is as it was
  sent_kept : ((encode c sent).reply ≡ Ok tt → ⊥) → (encode c sent).sent ≡ sent
  unfolding encode encode_settled
  sent_kept h = after_refusal h _ _

-- ---- 14

both_told : {P Q : Type 0} (b d : Bool) → Tells b P → Tells d Q → Tells (b && d) (P × Q)
both_told true true t u = record { yes = λ e. (t.yes refl, u.yes refl); no = λ e. absurd (false≢true (sym e)) }
both_told true false t u = record { yes = λ e. absurd (false≢true e); no = λ e p. u.no refl p.1 }
both_told false d t u = record { yes = λ e. absurd (false≢true e); no = λ e p. t.no refl p.0 }

refusal_told : {P : Type 0} (b : Bool) → Tells b P → ((check b NoTail then Ok tt) ≡ Err NoTail) ↔ (P → ⊥)
unfolding check ◌then◌
refusal_told true t = (λ e. absurd (refused_is_not_done (sym e)), λ h. absurd (h (t.yes refl)))
refusal_told false t = (λ e. t.no refl, λ h. refl)

done_told : {P : Type 0} (b : Bool) → Tells b P → ((check b NoTail then Ok tt) ≡ Ok tt) ↔ P
unfolding check ◌then◌
done_told true t = (λ e. t.yes refl, λ h. refl)
done_told false t = (λ e. absurd (refused_is_not_done e), λ h. absurd (t.no refl h))

both_found : (o i : Option TrellisPath) (h : TrellisPath → TrellisPath → List ℕ) → (found o && found i) ≡ found (bind o (λ p. map (h p) i))
unfolding found bind
both_found none i h = refl
both_found (some p) none h = refl
both_found (some p) (some q) h = refl

-- of a call to which no other number applies, whether a frame is found tells whether each coder has a path of its end with its own inputs
pub both_own_told : (c : EncodeCall) (sent : List ℕ) → first_of (encode_lent_checks c sent) ≡ Ok tt → Tells (found (sent_for c.frame c.message)) (BothOwnPaths c)
unfolding sent_for
both_own_told c sent passed =
    let f = c.frame in
    let lent = codable c sent passed in
    let bits : IsBits f.bits c.message = rw lent.message_long at (bits_tested c.message lent.bits) in
    let some_state = (shaped_is f.table lent.framed.shape).some_state in
    let other = interleave 0 f.pattern c.message in
    let both = both_found (coded_path f.table f.first f.tail c.message) (coded_path f.table f.second f.tail other)
    (λ p q. puncture (flags f) (places f p q)) in
    rw (← both)
    (both_told _ _
    (own_told f some_state c.message bits f.first)
    (own_told f some_state other (bits_interleaved (checked f lent.framed).permutes bits) f.second))

-- so 14 is given exactly where not each has
pub every_14_means : (c : EncodeCall) (sent : List ℕ) → first_of (encode_lent_checks c sent) ≡ Ok tt → ((encode c sent).reply ≡ Err NoTail) ↔ (BothOwnPaths c → ⊥)
unfolding encode encode_settled encode_checks encode_path_checks first_of
every_14_means c sent passed = rw (first_passes (encode_lent_checks c sent) (encode_path_checks c) passed) (refusal_told _ (both_own_told c sent passed))

-- and the call is done exactly where each has
every_done_means : (c : EncodeCall) (sent : List ℕ) → first_of (encode_lent_checks c sent) ≡ Ok tt → ((encode c sent).reply ≡ Ok tt) ↔ BothOwnPaths c
unfolding encode encode_settled encode_checks encode_path_checks first_of
every_done_means c sent passed = rw (first_passes (encode_lent_checks c sent) (encode_path_checks c) passed) (done_told _ (both_own_told c sent passed))

-- ---- the whole call

-- whatever is lent: a call to which no number but 14 applies is a whole coding
pub every_coding_means : (c : EncodeCall) (sent : List ℕ) → first_of (encode_lent_checks c sent) ≡ Ok tt → IsCoding c sent (encode c sent)
every_coding_means c sent passed = record {
  no_tail_lem = every_14_means c sent passed;
  done = every_done_means c sent passed;
  written = every_frame_means c sent;
  kept = sent_kept c sent;
}
