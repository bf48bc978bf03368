-- The coder by the words of its sections: whether a coder has a path by its end and the words of it; and the frame sent, with its reply, by the words of both.
-- Assumes nothing.
use Rattle.std.specs.Prelude.{Some, None, Ok, Err, ◌≡◌, ◌≢◌, Bool, true, false, not, ℕ, ◌/◌, ◌<◌}
use Rattle.std.proofs.Math.Path.{refl, sym, ap₂}
use Rattle.std.proofs.Common.{ap, ◌∙◌, arith, take_all}
use mathlib.Core.List.{List}
use Rattle.std.proofs.Math.Option.{Option, none, some, bind, map-eq-some_iff, map-eq-none_iff}
use Rattle.std.proofs.Math.ListN.{length, take}
use Rattle.std.proofs.lemmas.Bool.{not-true, not-false}
use Rattle.lists.specs.Lists.{found}
use Rattle.refusal.specs.declared.Refusal.TheVariants.{NoTail}
use Rattle.refusal.specs.Refusals.{check, ◌then◌, first_of, after}
use Rattle.trellis.specs.declared.End.{End}
use Rattle.trellis.specs.declared.End.TheVariants.{Zero, Open, Ring}
use Rattle.trellis.specs.laws.Branches.{shaped_is}
use Rattle.trellis.specs.Table.{Table, table_of}
use Rattle.trellis.specs.Path.{TrellisPath, finish}
use Rattle.trellis.specs.Best.{IsBits}
use Rattle.frame.specs.Interleaver.{interleave}
use Rattle.frame.proofs.laws.Interleaving.{permuting}
use Rattle.frame.specs.Frame.{Frame, tail1, tail2, sections1, sections2, flags, puncture}
use Rattle.coder.specs.Coder.{coded_path, sent_for, EncodeCall, encode_path_checks, encode_settled}
use Rattle.frame.proofs.laws.Checked.{Framed}
use Rattle.coder.specs.Lent.{encode_result_of}
use Rattle.coder.specs.laws.Sections.{words_along, bits_of, places_of}
use Rattle.coder.specs.laws.Tails.{IsTail}
use Rattle.coder.specs.laws.Walking.{words_append, Walked, Continued}
use Rattle.coder.specs.laws.WordPlaces.{words_of, places_by_words}
use Rattle.coder.specs.laws.Bits.{bits_interleaved}
use Rattle.coder.specs.laws.CodedPaths.{coded_is_path, ring_exactly, ring_none}
use Rattle.coder.specs.laws.Coding.{coded_words, Coded, coded}

-- ---- one coder's code

-- from state 0 to state 0
module _ {next words xs : List ℕ} {s n : ℕ} {front : List ℕ} (walked : Walked next words 0 xs s front) where
  pub coded_none : {out : List ℕ} → IsTail next s n None → Coded next words Zero n xs false out
  unfolding coded_words coded_path
  coded_none tail = record {
    is = λ outputs. let states = length next / 2 in rw (← walked.ends states outputs, ← tail.is (table_of states outputs next words) refl);
  }

  pub coded_some : {b : ℕ} {out : List ℕ} → IsTail next s n (Some b) →
      Continued next words s (bits_of n b) (length xs) front out → Coded next words Zero n xs true out
  unfolding coded_words coded_path
  coded_some {b} {out} tail more = record { is = λ outputs. whole (length next / 2) outputs (walked.ends _ outputs) (walked.front _ outputs) }
    where
      whole : (states outputs : ℕ) → s ≡ finish (table_of states outputs next words) 0 xs →
          take (length xs) front ≡ words_along (table_of states outputs next words) 0 xs →
          coded_words (table_of states outputs next words) Zero n xs ≡ some out
      whole states outputs e f =
          let t = table_of states outputs next words in
          let all = words_append t 0 xs (bits_of n b) ∙ sym (rw (f, e) at (more.is states outputs)) in
          rw (← e, ← tail.is t refl) (ap {B = Option (List ℕ)} some all)

-- words of all of a list
pub all_words : {next words xs out : List ℕ} {a s : ℕ} → Walked next words a xs s out → length out ≡ length xs → (states outputs : ℕ) →
    words_along (table_of states outputs next words) a xs ≡ out
all_words {xs = xs} {out = out} walked e states outputs = sym (walked.front states outputs) ∙ take_all (length xs) out (omega arith)

-- from state 0 to any state
pub coded_open : {next words xs out : List ℕ} {s : ℕ} (n : ℕ) → Walked next words 0 xs s out → length out ≡ length xs → Coded next words Open n xs true out
unfolding coded_words coded_path
coded_open {next} n walked e = record { is = λ outputs. ap {B = Option (List ℕ)} some (all_words walked e (length next / 2) outputs) }

-- from any state back to the same one
pub coded_ring : {next words xs out : List ℕ} {s : ℕ} (n : ℕ) → Walked next words s xs s out → length out ≡ length xs → s < length next / 2 →
    ((outputs r : ℕ) → r < s → finish (table_of (length next / 2) outputs next words) r xs ≢ r) → Coded next words Ring n xs true out
unfolding coded_words coded_path
coded_ring {next} {words} {xs} {out} {s} n walked e state before = record { is = is }
  where
    is : (outputs : ℕ) → coded_words (table_of (length next / 2) outputs next words) Ring n xs ≡ some out
    is outputs =
        let t = table_of (length next / 2) outputs next words in
        rw ((ring_exactly t xs s).1 (record { inside = state; returns = sym (walked.ends (length next / 2) outputs); lower = before outputs }))
        (ap {B = Option (List ℕ)} some (all_words walked e (length next / 2) outputs))

pub coded_no_ring : {next words xs : List ℕ} (n : ℕ) (out : List ℕ) →
    ((outputs r : ℕ) → r < length next / 2 → finish (table_of (length next / 2) outputs next words) r xs ≢ r) → Coded next words Ring n xs false out
unfolding coded_words coded_path
coded_no_ring {next} {words} {xs} n out none-back = record {
  is = λ outputs. rw ((ring_none (table_of (length next / 2) outputs next words) xs).1 (none-back outputs));
}

module _ {next words : List ℕ} {end : End} {n : ℕ} {xs : List ℕ} {has : Bool} {out : List ℕ}
    (coded : Coded next words end n xs has out) (outputs : ℕ) where
  pub has_no_path : not has ≡ true → coded_words (table_of (length next / 2) outputs next words) end n xs ≡ none
  has_no_path e = rw (not-true has e) at (coded.is outputs)

  pub has_path : not has ≡ false → coded_words (table_of (length next / 2) outputs next words) end n xs ≡ some out
  has_path e = rw (not-false has e) at (coded.is outputs)

-- ---- a frame's coder

module _ (t : Table) (end : End) (n : ℕ) (xs : List ℕ) where
  without_path : coded_words t end n xs ≡ none → coded_path t end n xs ≡ none
  unfolding coded_words
  without_path e = (map-eq-none_iff (words_of t) (coded_path t end n xs)).0 e

  with_path : {v : List ℕ} → coded_words t end n xs ≡ some v → (p : TrellisPath) × (coded_path t end n xs ≡ some p) × (words_of t p ≡ v)
  unfolding coded_words
  with_path e = (map-eq-some_iff (words_of t) (coded_path t end n xs)).0 e

-- ---- both coders

module _ (f : Frame) (message : List ℕ) where
  pub no_first_path : coded_words f.table f.first f.tail message ≡ none → sent_for f message ≡ none
  unfolding sent_for bind
  no_first_path e = rw (without_path f.table f.first f.tail message e)

  pub no_second_path : coded_words f.table f.second f.tail (interleave 0 f.pattern message) ≡ none → sent_for f message ≡ none
  unfolding sent_for bind
  no_second_path e =
      rw (without_path f.table f.second f.tail (interleave 0 f.pattern message) e) (go (coded_path f.table f.first f.tail message))
    where
      go : (o : Option TrellisPath) → bind {B = List ℕ} o (λ p. none) ≡ none
      go none = refl
      go (some p) = refl

  pub sent_by_words : {first second : List ℕ} → Framed f → IsBits f.bits message → coded_words f.table f.first f.tail message ≡ some first →
      coded_words f.table f.second f.tail (interleave 0 f.pattern message) ≡ some second →
      sent_for f message ≡ some (puncture (flags f) (places_of f.bits (tail1 f) (tail2 f) first second))
  unfolding sent_for bind sections1 sections2 tail1 tail2
  sent_by_words w bits e g =
      let (p, p-is, first_is) = with_path f.table f.first f.tail message e in
      let (q, q-is, second_is) = with_path f.table f.second f.tail (interleave 0 f.pattern message) g in
      let interleaved = bits_interleaved (permuting f.bits f.pattern w.pattern_long w.permutes) bits in
      let some_state = (shaped_is f.table w.shape).some_state in
      let p-path = coded_is_path f.table f.first f.bits f.tail message p some_state bits p-is in
      let q-path = coded_is_path f.table f.second f.bits f.tail (interleave 0 f.pattern message) q some_state interleaved q-is in
      let same = places_by_words f w.shape w.branches w.codes p q p-path q-path in
      rw (p-is, q-is) (ap (λ (l : List ℕ). some (puncture (flags f) l)) (sym same ∙ ap₂ (places_of f.bits (tail1 f) (tail2 f)) first_is second_is))

-- ---- the reply, and what it leaves of the list

module _ (c : EncodeCall) (sent : List ℕ) where
  pub settled_none : sent_for c.frame c.message ≡ none → encode_result_of (Err NoTail) sent ≡ coded c sent
  unfolding encode_settled encode_path_checks first_of check ◌then◌ after found
  settled_none e = rw e

  pub settled_some : {frame : List ℕ} → sent_for c.frame c.message ≡ some frame → encode_result_of (Ok tt) frame ≡ coded c sent
  unfolding encode_settled encode_path_checks first_of check ◌then◌ after found
  settled_some e = rw e
