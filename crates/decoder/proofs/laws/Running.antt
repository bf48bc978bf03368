-- All iterations: what holds after each, and what the last leaves.
-- Assumes nothing.
use Rattle.std.specs.Prelude.{◌≡◌, refl, List, ◌++◌, map, ℤ, pos, take, Ok}
use Rattle.std.proofs.Math.Path.{sym, ap}
use Rattle.std.proofs.Common.{◌∙◌, take_at}
use Prim.Native.Nat.{ℕ, zero, suc, ◌+◌, ◌-◌, ◌<◌, ◌≤◌}
use Rattle.std.proofs.Math.Numerals.{add-one}
use native.Mathlib.Omega.{arith}
use Rattle.std.proofs.Math.ListN.{length, replicate, length-replicate}
use Rattle.std.proofs.lemmas.List.{replicate-append-replicate}
use Rattle.integers.specs.Integers.{inside}
use Rattle.lists.specs.laws.Every.{every_replicate}
use Rattle.lists.specs.laws.Lending.{front_replicate}
use Rattle.refusal.specs.Refusals.{Reply}
use Rattle.frame.specs.declared.FrameFormat.{FrameFormat}
use Rattle.trellis.specs.Limits.{apriori_limit, apriori_fits}
use Rattle.frame.specs.laws.Interleaving.{Permutes}
use Rattle.frame.proofs.laws.Interleaving.{deinterleave_length}
use Rattle.soft.specs.Soft.{hand_over}
use Rattle.decoder.specs.Decoder.{hand_back, handed_on, iteration, prior_after}
use Rattle.decoder.specs.laws.Passing.{Zeros}
use Rattle.decoder.specs.laws.Iterating.{frame_by, IsPrior, Iterated}
use Rattle.decoder.proofs.laws.Handing.{back_fits, extrinsics_long}
use Rattle.decoder.specs.laws.Running.{Says, Running, Ended}

-- a-priori values of 0 are within their limits
module _ (pattern : List ℕ) {apriori : List ℤ} (few : length pattern ≤ 4096) (e : apriori ≡ replicate 4096 (pos 0)) where
  pub zeros_front : take (length pattern) apriori ≡ replicate (length pattern) (pos 0)
  zeros_front = ap (λ (l : List ℤ). take (length pattern) l) e ∙ front_replicate (length pattern) 4096 (pos 0) few

  pub zeros_prior : IsPrior pattern (take (length pattern) apriori) apriori
  unfolding apriori_fits inside
  zeros_prior =
      let all : 4096 ≡ length pattern + (4096 - length pattern) = omega arith in
      rw zeros_front (record {
        is = e ∙ ap (λ (m : ℕ). replicate m (pos 0)) all ∙ sym (replicate-append-replicate (length pattern) (4096 - length pattern) (pos 0));
        long = length-replicate (length pattern) (pos 0);
        small = every_replicate (inside apriori_limit) (length pattern) (pos 0) refl;
      })

-- the a-priori values before each iteration, from the first ones
module _ (format : FrameFormat) (next words pattern : List ℕ) (w : Permutes (length pattern) pattern) (channel1 channel2 : List ℤ)
    {a begun : List ℤ} (begins : IsPrior pattern a begun) where
  pub before_each : (i : ℕ) →
      IsPrior pattern (prior_after (frame_by format next words pattern) channel1 channel2 a i)
      (prior_after (frame_by format next words pattern) channel1 channel2 a i ++ replicate (4096 - length pattern) (pos 0))
  unfolding prior_after hand_back iteration
  before_each zero = record { is = refl; long = begins.long; small = begins.small }
  before_each (suc i) =
      let frame = frame_by format next words pattern in
      let says = iteration frame channel1 channel2 (prior_after frame channel1 channel2 a i) in
      record {
        is = refl;
        long = deinterleave_length (pos 0) (length pattern) pattern w (map hand_over says.extrinsics);
        small = back_fits pattern w says.extrinsics (extrinsics_long frame format.second channel2 (handed_on frame channel1 (prior_after frame channel1 channel2 a i)));
      }

-- ---- all iterations

module _ {format : FrameFormat} {next words pattern : List ℕ} {channel1 channel2 a : List ℤ} where
  pub running_none : {apriori : List ℤ} (marks1 marks2 : List ℕ) (margins extrinsics work : List ℤ) → IsPrior pattern a apriori → Zeros work →
      Running format next words pattern channel1 channel2 a 0 apriori marks1 marks2 margins extrinsics work
  unfolding prior_after
  running_none marks1 marks2 margins extrinsics work begins zeros = record {
    prior = begins.is;
    says = λ j q. absurd (omega arith);
    walked = λ h. absurd (omega arith);
    clear = zeros;
  }

  module _ (w : Permutes (length pattern) pattern) {begun : List ℤ} (begins : IsPrior pattern a begun) {i : ℕ} {apriori : List ℤ}
      {marks1 marks2 : List ℕ} {margins extrinsics work : List ℤ}
      (running : Running format next words pattern channel1 channel2 a i apriori marks1 marks2 margins extrinsics work) where
    -- the message positions' values
    front_is : take (length pattern) apriori ≡ prior_after (frame_by format next words pattern) channel1 channel2 a i
    front_is =
        ap (λ (l : List ℤ). take (length pattern) l) running.prior
        ∙ take_at _ (replicate (4096 - length pattern) (pos 0)) (length pattern) (before_each format next words pattern w channel1 channel2 begins i).long

    pub running_prior : IsPrior pattern (take (length pattern) apriori) apriori
    running_prior =
        let p = before_each format next words pattern w channel1 channel2 begins i in
        record {
          is = running.prior ∙ ap (λ (l : List ℤ). l ++ replicate (4096 - length pattern) (pos 0)) (sym front_is);
          long = rw front_is p.long;
          small = rw front_is p.small;
        }

    pub running_more : {r : Reply} {apriori' : List ℤ} {marks1' marks2' : List ℕ} {margins' extrinsics' work' : List ℤ} → r ≡ Ok tt →
        Iterated format next words pattern channel1 channel2 (take (length pattern) apriori) r apriori' marks1' marks2' margins' extrinsics' work' →
        Running format next words pattern channel1 channel2 a (i + 1) apriori' marks1' marks2' margins' extrinsics' work'
    unfolding prior_after
    running_more {marks1' = marks1'} {marks2'} {margins'} {extrinsics'} done it = rw add-one (record {
      prior = rw front_is at (it.handed done);
      says = λ j q. let e : i ≡ j = omega arith in rw (front_is, e) at here;
      walked = λ h. sym it.reply ∙ done;
      clear = it.clear;
    })
      where
        here : Says format next words pattern channel1 channel2 (take (length pattern) apriori) marks1' marks2' margins' extrinsics'
        here = record { free = it.free done; said = it.said done }

  -- the first that has no path ends it
  pub ended_early : {iterations : ℕ} {b : List ℤ} {r : Reply} {apriori : List ℤ} {marks1 marks2 : List ℕ} {margins extrinsics work : List ℤ} → (r ≡ Ok tt → ⊥) →
      Iterated format next words pattern channel1 channel2 b r apriori marks1 marks2 margins extrinsics work →
      Ended format next words pattern channel1 channel2 a iterations r marks1 marks2 margins extrinsics work
  ended_early not_done it = record { reply = it.reply; says = λ d. absurd (not_done d); clear = it.clear }

  pub ended_late : {iterations i : ℕ} {apriori : List ℤ} {marks1 marks2 : List ℕ} {margins extrinsics work : List ℤ} → 0 < iterations → i ≡ iterations →
      Running format next words pattern channel1 channel2 a i apriori marks1 marks2 margins extrinsics work →
      Ended format next words pattern channel1 channel2 a iterations (Ok tt) marks1 marks2 margins extrinsics work
  ended_late {iterations} {i} some all running =
      let h : 0 < i = omega arith in
      record {
        reply = sym (running.walked h);
        says = λ d. running.says (iterations - 1) (omega arith);
        clear = running.clear;
      }
