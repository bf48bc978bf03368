-- The steps of an iteration: what is handed over is within its limits and is what the definition hands over, so that one pass follows the other.
-- Assumes nothing.
use Rattle.std.specs.Prelude.{◌≡◌, refl, Bool, true, false, not, ◌||◌, ℕ, zero, suc, ◌+◌, ◌-◌, ◌<◌, ◌≤◌, ℤ, pos, get_or, replicate, leb, eqb, Ok, Err}
use Rattle.std.proofs.Math.Path.{sym, ap, ap₂}
use Rattle.std.proofs.Common.{◌∙◌, zero-add, suc-add, arith, length-append, length-take-le, leb-true}
use mathlib.Core.List.{List, [], ◌∷◌, ◌++◌, map}
use Rattle.std.proofs.Math.ListN.{length, take, drop}
use Rattle.std.proofs.lemmas.List.{length-replicate}
use Rattle.std.proofs.Math.Seq.{drop_at}
use Rattle.lists.specs.Lists.{every, any, upto}
use Rattle.lists.specs.laws.Lending.{front_replicate}
use Rattle.lists.specs.laws.Tests.{and_right}
use Rattle.refusal.specs.declared.Refusal.{Refusal}
use Rattle.refusal.specs.declared.Refusal.TheVariants.{NoPath}
use Rattle.refusal.specs.Refusals.{Reply, check}
use Rattle.refusal.specs.laws.Checks.{refused_is_not_done}
use Rattle.integers.specs.Integers.{inside}
use Rattle.integers.specs.laws.Laws.{inside_is}
use Rattle.lists.specs.laws.Every.{every_append, every_replicate, at_every}
use Rattle.lists.specs.laws.Listed.{map_at, take_listed, listed_length}
use Rattle.trellis.specs.declared.End.{End}
use Rattle.frame.specs.declared.FrameFormat.{FrameFormat}
use Rattle.trellis.specs.Table.{Table}
use Rattle.trellis.specs.Path.{Values}
use Rattle.trellis.specs.Limits.{apriori_limit, sections_fit, apriori_fits}
use Rattle.trellis.specs.Outcome.{forced, margins as margins_of, extrinsics as extrinsics_of}
use Rattle.siso.specs.Lent.{values_of}
use Rattle.frame.specs.Frame.{Frame, tail_of}
use Rattle.frame.specs.Interleaver.{place, interleave, deinterleave}
use Rattle.frame.specs.laws.Interleaving.{Permutes}
use Rattle.frame.proofs.laws.Interleaving.{interleave_at, interleave_length, deinterleave_at, deinterleave_length}
use Rattle.soft.specs.Soft.{hand_over}
use Rattle.decoder.specs.Decoder.{pass, hand_on, hand_back, handed_on, iteration}
use Rattle.decoder.specs.laws.Marks.{marks_tell}
use Rattle.soft.specs.laws.HandOver.{handed_within}
use Rattle.decoder.specs.laws.Passing.{table_by, Zeros, Passing, Passed, Said}
use Rattle.decoder.specs.laws.Iterating.{frame_by, sections_by, sections1_by, sections2_by, Fitting, IsPrior}

-- ---- limits

-- what is handed over is within its limits
handed_inside : (xs : List ℤ) (i : ℕ) → i < length xs → inside apriori_limit (get_or (map hand_over xs) i (pos 0)) ≡ true
handed_inside xs i h = rw (map_at hand_over xs i (pos 0) (pos 0) h) ((inside_is apriori_limit _).1 (handed_within (get_or xs i (pos 0))))

module _ (p : List ℕ) (w : Permutes (length p) p) (xs : List ℤ) (long : length xs ≡ length p) where
  pub on_fits : apriori_fits (interleave (pos 0) p (map hand_over xs)) ≡ true
  unfolding apriori_fits
  on_fits =
      at_every (inside apriori_limit) (pos 0) _
      (λ i h.
      let l : i < length p = omega (arith, interleave_length (pos 0) (length p) p w (map hand_over xs)) in
      rw (interleave_at (pos 0) (length p) p w (map hand_over xs) i l) (handed_inside xs (get_or p i 0) (omega (arith, w.below i l, long))))

  pub back_fits : apriori_fits (deinterleave (pos 0) p (map hand_over xs)) ≡ true
  unfolding apriori_fits
  back_fits =
      at_every (inside apriori_limit) (pos 0) _
      (λ x h.
      let l : x < length p = omega (arith, deinterleave_length (pos 0) (length p) p w (map hand_over xs)) in
      let at = deinterleave_at (pos 0) (length p) p w (map hand_over xs) (place x p) (w.place_below x l) in
      rw (rw (w.at_place x l) at at) (handed_inside xs (place x p) (omega (arith, w.place_below x l, long))))

-- ---- one pass after the other

-- the front of a list past its first part
take_past : (a ys : List ℤ) (k t : ℕ) → length a ≡ k → take (k + t) (a ++ ys) ≡ a ++ take t ys
take_past a ys k t e = ap (λ (n : ℕ). take (n + t) (a ++ ys)) (sym e) ∙ go a
  where
    go : (b : List ℤ) → take (length b + t) (b ++ ys) ≡ b ++ take t ys
    go [] = ap (λ (n : ℕ). take n ys) (zero-add t)
    go (x ∷ b) = ap (λ (n : ℕ). take n (x ∷ (b ++ ys))) (suc-add (length b) t) ∙ ap (λ (l : List ℤ). x ∷ l) (go b)

module _ {p : List ℕ} {a apriori : List ℤ} (few : length p ≤ 4096) (prior : IsPrior p a apriori) where
  pub prior_long : length apriori ≡ 4096
  prior_long =
      ap (λ (l : List ℤ). length l) prior.is ∙ length-append a _ ∙ ap₂ ◌+◌ prior.long (length-replicate (4096 - length p) (pos 0)) ∙ omega arith

  -- what a pass with t tail sections reads
  pub prior_front : (t : ℕ) → length p + t ≤ 4096 → take (length p + t) apriori ≡ a ++ replicate t (pos 0)
  prior_front t room =
      ap (λ (l : List ℤ). take (length p + t) l) prior.is
      ∙ take_past a (replicate (4096 - length p) (pos 0)) (length p) t prior.long
      ∙ ap (λ (l : List ℤ). a ++ l) (front_replicate t (4096 - length p) (pos 0) (omega arith))

  front_fits : (t : ℕ) → length p + t ≤ 4096 → apriori_fits (take (length p + t) apriori) ≡ true
  unfolding apriori_fits inside
  front_fits t room =
      rw (prior_front t room) (every_append (inside apriori_limit) a _ prior.small (every_replicate (inside apriori_limit) t (pos 0) refl))

  -- behind other values of the message positions the others are as before
  pub prior_again : {b front : List ℤ} → front ≡ b → length b ≡ length p → apriori_fits b ≡ true → IsPrior p b (front ++ drop (length p) apriori)
  prior_again {b} {front} e long small = record {
    is = ap₂ ◌++◌ e (ap (λ (l : List ℤ). drop (length p) l) prior.is ∙ drop_at a (replicate (4096 - length p) (pos 0)) (length p) prior.long);
    long = long;
    small = small;
  }

-- a pass has at most 4,096 sections
pub fit_few : (n : ℕ) → sections_fit n ≡ true → n ≤ 4096
unfolding sections_fit
fit_few n e = leb-true n 4096 (and_right (leb 1 n) _ e)

module _ {format : FrameFormat} {next words pattern : List ℕ} {channel1 channel2 : List ℤ} {p m o g x : ℕ} {w : List ℤ}
    (fitting : Fitting format next words pattern channel1 channel2 p m o g x w) where
  pub few1 : sections1_by format pattern ≤ 4096
  few1 = fit_few _ fitting.fits1

  pub few2 : sections2_by format pattern ≤ 4096
  few2 = fit_few _ fitting.fits2

  pub few_bits : length pattern ≤ 4096
  few_bits = omega (arith, few1)

  module _ {a apriori : List ℤ} (prior : IsPrior pattern a apriori) where
    pub first_passing : Passing next words (sections1_by format pattern) channel1 apriori m g x w
    first_passing = record {
      pass = record {
        shape = fitting.shape;
        branches = fitting.branches;
        fits = fitting.fits1;
        channel_long = fitting.channel1_long;
        apriori_long = length-take-le _ apriori (omega (arith, few1, prior_long few_bits prior));
        channel_small = fitting.channel1_small;
        apriori_small = front_fits few_bits prior (tail_of format.first format.tail) few1;
      };
      apriori_room = omega (arith, few1, prior_long few_bits prior);
      marks_room = omega (arith, few1, fitting.marks1_long);
      margins_room = omega (arith, few1, fitting.margins_long);
      extrinsics_room = omega (arith, few1, fitting.extrinsics_long);
      work_room = fitting.work_room1;
      zeros = fitting.zeros;
    }

    pub second_passing : Passing next words (sections2_by format pattern) channel2 apriori o g x w
    second_passing = record {
      pass = record {
        shape = fitting.shape;
        branches = fitting.branches;
        fits = fitting.fits2;
        channel_long = fitting.channel2_long;
        apriori_long = length-take-le _ apriori (omega (arith, few2, prior_long few_bits prior));
        channel_small = fitting.channel2_small;
        apriori_small = front_fits few_bits prior (tail_of format.second format.tail) few2;
      };
      apriori_room = omega (arith, few2, prior_long few_bits prior);
      marks_room = omega (arith, few2, fitting.marks2_long);
      margins_room = omega (arith, few2, fitting.margins_long);
      extrinsics_room = omega (arith, few2, fitting.extrinsics_long);
      work_room = fitting.work_room2;
      zeros = fitting.zeros;
    }

  -- lists that are lent keep their lengths, and the working list comes back with zeros
  pub refitted : {p' m' o' g' x' : ℕ} {w' : List ℤ} → p' ≡ p → m' ≡ m → o' ≡ o → g' ≡ g → x' ≡ x → length w' ≡ length w → Zeros w' →
      Fitting format next words pattern channel1 channel2 p' m' o' g' x' w'
  refitted ep em eo eg ex ew zeros = record {
    shape = fitting.shape;
    branches = fitting.branches;
    fits1 = fitting.fits1;
    fits2 = fitting.fits2;
    permutes = fitting.permutes;
    permuting = fitting.permuting;
    channel1_long = fitting.channel1_long;
    channel2_long = fitting.channel2_long;
    channel1_small = fitting.channel1_small;
    channel2_small = fitting.channel2_small;
    apriori_long = ep ∙ fitting.apriori_long;
    marks1_long = em ∙ fitting.marks1_long;
    marks2_long = eo ∙ fitting.marks2_long;
    margins_long = eg ∙ fitting.margins_long;
    extrinsics_long = ex ∙ fitting.extrinsics_long;
    work_room1 = rw ew fitting.work_room1;
    work_room2 = rw ew fitting.work_room2;
    zeros = zeros;
  }

-- ---- what a pass says

take_nil : {A : Type 0} (m : ℕ) → take {A = A} m [] ≡ []
take_nil zero = refl
take_nil (suc m) = refl

-- the front of a front
pub take_front : {A : Type 0} (xs : List A) (k n : ℕ) → k ≤ n → take k (take n xs) ≡ take k xs
take_front xs zero n h = refl
take_front [] (suc k) n h = ap (λ (l : List _). take (suc k) l) (take_nil n)
take_front (x ∷ xs) (suc k) zero h = absurd (omega arith)
take_front (x ∷ xs) (suc k) (suc n) h = ap (λ (l : List _). x ∷ l) (take_front xs k n (omega arith))

module _ (f : Frame) (end : End) (channel a : List ℤ) {apriori : List ℤ} {marks : List ℕ} {margins extrinsics : List ℤ}
    (prior : apriori ≡ a ++ replicate (tail_of end f.tail) (pos 0))
    (said : Said f.table (values_of channel apriori) end (f.bits + tail_of end f.tail) marks margins extrinsics) where
  pub extrinsics_said : take f.bits extrinsics ≡ (pass f end channel a).extrinsics
  unfolding pass extrinsics_of
  extrinsics_said =
      ap (λ (l : List ℤ). take f.bits l) said.extrinsics_are
      ∙ take_listed _ (f.bits + tail_of end f.tail) f.bits (pos 0) (omega arith)
      ∙ ap (λ (l : List ℤ). extrinsics_of f.table (values_of channel l) end (f.bits + tail_of end f.tail) f.bits) prior

  pub margins_said : take f.bits margins ≡ (pass f end channel a).margins
  unfolding pass margins_of
  margins_said =
      ap (λ (l : List ℤ). take f.bits l) said.margins_are
      ∙ take_listed _ (f.bits + tail_of end f.tail) f.bits (pos 0) (omega arith)
      ∙ ap (λ (l : List ℤ). margins_of f.table (values_of channel l) end (f.bits + tail_of end f.tail) f.bits) prior

-- what a pass says of the K message positions
pub extrinsics_long : (f : Frame) (end : End) (channel a : List ℤ) → length (pass f end channel a).extrinsics ≡ f.bits
unfolding pass extrinsics_of
extrinsics_long f end channel a = listed_length _ f.bits

-- ---- the steps of an iteration

module _ (format : FrameFormat) (next words pattern : List ℕ) (channel1 channel2 : List ℤ) where
  abbrev frame : Frame
  frame = frame_by format next words pattern

  -- pass 1 hands over its extrinsics as the definition does, and they are a-priori values for pass 2
  pub handed_on_lem : (w : Permutes (length pattern) pattern) → sections1_by format pattern ≤ 4096 → {a apriori : List ℤ} → IsPrior pattern a apriori →
      (marks : List ℕ) (margins extrinsics : List ℤ) {front : List ℤ} →
      Said (table_by next words) (values_of channel1 (take (sections1_by format pattern) apriori)) format.first (sections1_by format pattern)
      (take (sections1_by format pattern) marks) (take (sections1_by format pattern) margins) (take (sections1_by format pattern) extrinsics) →
      front ≡ interleave (pos 0) pattern (map hand_over (take (length pattern) extrinsics)) →
      IsPrior pattern (handed_on frame channel1 a) (front ++ drop (length pattern) apriori)
  unfolding handed_on hand_on
  handed_on_lem w few {a} prior marks margins extrinsics said front_is =
      let says =
      sym (take_front extrinsics (length pattern) (sections1_by format pattern) (omega arith))
      ∙ extrinsics_said frame format.first channel1 a (prior_front (omega arith) prior (tail_of format.first format.tail) few) said in
      prior_again (omega arith) prior
      (front_is ∙ ap (λ (l : List ℤ). interleave (pos 0) pattern (map hand_over l)) says)
      (interleave_length (pos 0) (length pattern) pattern w (map hand_over (pass frame format.first channel1 a).extrinsics))
      (on_fits pattern w (pass frame format.first channel1 a).extrinsics (extrinsics_long frame format.first channel1 a))

  -- pass 2 hands back what the definition does
  module _ (few : sections2_by format pattern ≤ 4096) (a : List ℤ) {apriori : List ℤ} (prior : IsPrior pattern (handed_on frame channel1 a) apriori)
      (marks : List ℕ) (margins extrinsics : List ℤ)
      (said : Said (table_by next words) (values_of channel2 (take (sections2_by format pattern) apriori)) format.second (sections2_by format pattern)
      (take (sections2_by format pattern) marks) (take (sections2_by format pattern) margins) (take (sections2_by format pattern) extrinsics)) where
    front_is : take (sections2_by format pattern) apriori ≡ handed_on frame channel1 a ++ replicate (tail_of format.second format.tail) (pos 0)
    front_is = prior_front (omega arith) prior (tail_of format.second format.tail) few

    pub said_over : Said (table_by next words) (values_of channel2 (handed_on frame channel1 a ++ replicate (tail_of format.second format.tail) (pos 0))) format.second (sections2_by format pattern)
        (take (sections2_by format pattern) marks) (take (sections2_by format pattern) margins) (take (sections2_by format pattern) extrinsics)
    said_over = rw front_is at said

    pub handed_back : {front : List ℤ} → front ≡ deinterleave (pos 0) pattern (map hand_over (take (length pattern) extrinsics)) →
        front ++ drop (length pattern) apriori ≡ hand_back frame (iteration frame channel1 channel2 a) ++ replicate (4096 - length pattern) (pos 0)
    unfolding hand_back iteration
    handed_back e =
        let says =
        sym (take_front extrinsics (length pattern) (sections2_by format pattern) (omega arith))
        ∙ extrinsics_said frame format.second channel2 (handed_on frame channel1 a) front_is said in
        ap₂ ◌++◌
        (e ∙ ap (λ (l : List ℤ). deinterleave (pos 0) pattern (map hand_over l)) says)
        (ap (λ (l : List ℤ). drop (length pattern) l) prior.is
        ∙ drop_at (handed_on frame channel1 a) (replicate (4096 - length pattern) (pos 0)) (length pattern) prior.long)

-- the marks of a pass tell of the message positions
pub marks_free : (t : Table) (v : Values) (end : End) (k n : ℕ) (marks : List ℕ) {margins extrinsics : List ℤ} → k ≤ n →
    Said t v end n (take n marks) margins extrinsics → every (λ m. eqb m 2) (take k marks) ≡ not (any (forced t end n) (upto k))
marks_free t v end k n marks h said =
    ap (λ (l : List ℕ). every (λ m. eqb m 2) l) (sym (take_front marks k n h) ∙ ap (λ (l : List ℕ). take k l) said.marks_are)
    ∙ marks_tell t v end n k h

-- ---- by the number of tail sections as the code has it

module _ {format : FrameFormat} {next words pattern : List ℕ} {channel1 channel2 : List ℤ} {p m o g x : ℕ} {w : List ℤ}
    (fitting : Fitting format next words pattern channel1 channel2 p m o g x w) {a apriori : List ℤ} (prior : IsPrior pattern a apriori) where
  pub first_passing_at : (k : ℕ) → k ≡ tail_of format.first format.tail → Passing next words (length pattern + k) channel1 apriori m g x w
  first_passing_at k e = rw e (first_passing fitting prior)

  pub second_passing_at : (k : ℕ) → k ≡ tail_of format.second format.tail → Passing next words (length pattern + k) channel2 apriori o g x w
  second_passing_at k e = rw e (second_passing fitting prior)

pub passed_at : {next words : List ℕ} {end : End} (t : ℕ) (pattern : List ℕ) (k : ℕ) {channel apriori : List ℤ} {r : Reply} {marks : List ℕ} {margins extrinsics work : List ℤ} →
    k ≡ tail_of end t → Passed next words end (length pattern + k) channel apriori r marks margins extrinsics work →
    Passed next words end (sections_by end t pattern) channel apriori r marks margins extrinsics work
passed_at t pattern k e h = rw e at h

-- 12 in either pass is 12
pub first_refuses : (p q : Bool) {r : Reply} {x : Refusal} → r ≡ check (not p) NoPath → r ≡ Err x → r ≡ check (not (p || q)) NoPath
unfolding check
first_refuses true q e f = e
first_refuses false q e f = absurd (refused_is_not_done (sym f ∙ e))

pub both_pass : (p q : Bool) {r s : Reply} → r ≡ check (not p) NoPath → r ≡ Ok tt → s ≡ check (not q) NoPath → s ≡ check (not (p || q)) NoPath
unfolding check
both_pass true q e d f = absurd (refused_is_not_done (sym e ∙ d))
both_pass false q e d f = f
