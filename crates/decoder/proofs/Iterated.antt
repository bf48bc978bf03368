-- What an iteration leaves, by what its two passes leave.
-- Assumes nothing.
use Rattle.std.specs.Prelude.{Ok, Err, ◌≡◌, refl, List, ◌++◌, ℕ, ℤ, pos, map, length, take, drop}
use Rattle.std.proofs.Common.{arith}
use Rattle.refusal.specs.declared.Refusal.{Refusal}
use Rattle.refusal.specs.laws.Checks.{refused_is_not_done}
use Rattle.trellis.specs.Outcome.{pathless}
use Rattle.frame.specs.declared.FrameFormat.{FrameFormat}
use Rattle.frame.specs.Interleaver.{interleave, deinterleave}
use Rattle.soft.specs.Soft.{hand_over}
use Rattle.decoder.specs.Decoder.{handed_on}
use Rattle.decoder.specs.laws.Passing.{table_by, Passed, Passing}
use Rattle.decoder.specs.laws.Iterating.{frame_by, sections1_by, sections2_by, Fitting, IsPrior, Iterated}
use Rattle.decoder.proofs.laws.Handing.{few1, few2, handed_on_lem, handed_back, said_over, marks_free, first_refuses, both_pass, refitted, second_passing_at}

module _ {format : FrameFormat} {next words pattern : List ℕ} {channel1 channel2 : List ℤ} where
  -- pass 1 has no path
  pub refused_first : {a apriori apriori' : List ℤ} {e : Refusal} {marks1 marks2 : List ℕ} {margins extrinsics work : List ℤ} →
      Passed next words format.first (sections1_by format pattern) channel1 apriori (Err e) marks1 margins extrinsics work →
      Iterated format next words pattern channel1 channel2 a (Err e) apriori' marks1 marks2 margins extrinsics work
  refused_first one = record {
    reply = first_refuses (pathless (table_by next words) format.first (sections1_by format pattern)) (pathless (table_by next words) format.second (sections2_by format pattern)) one.reply refl;
    free = λ d. absurd (refused_is_not_done d);
    said = λ d. absurd (refused_is_not_done d);
    handed = λ d. absurd (refused_is_not_done d);
    clear = one.clear;
  }

  -- pass 2 has none
  pub refused_second : {a apriori1 apriori2 apriori' : List ℤ} {u : Unit {0}} {e : Refusal} {marks1 marks2 : List ℕ} {margins1 extrinsics1 work1 margins extrinsics work : List ℤ} →
      Passed next words format.first (sections1_by format pattern) channel1 apriori1 (Ok u) marks1 margins1 extrinsics1 work1 →
      Passed next words format.second (sections2_by format pattern) channel2 apriori2 (Err e) marks2 margins extrinsics work →
      Iterated format next words pattern channel1 channel2 a (Err e) apriori' marks1 marks2 margins extrinsics work
  refused_second one two = record {
    reply = both_pass (pathless (table_by next words) format.first (sections1_by format pattern)) (pathless (table_by next words) format.second (sections2_by format pattern)) one.reply refl two.reply;
    free = λ d. absurd (refused_is_not_done d);
    said = λ d. absurd (refused_is_not_done d);
    handed = λ d. absurd (refused_is_not_done d);
    clear = two.clear;
  }

  module _ {apriori : List ℤ} {p m o g x : ℕ} {w : List ℤ} {u : Unit {0}} {marks1 : List ℕ} {margins1 extrinsics1 work1 front1 : List ℤ}
      (fits : Fitting format next words pattern channel1 channel2 p m o g x w) (prior : IsPrior pattern (take (length pattern) apriori) apriori)
      (one : Passed next words format.first (sections1_by format pattern) channel1 apriori (Ok u) marks1 margins1 extrinsics1 work1)
      (on : front1 ≡ interleave (pos 0) pattern (map hand_over (take (length pattern) extrinsics1))) where
    -- what pass 1 hands on
    handed : IsPrior pattern (handed_on (frame_by format next words pattern) channel1 (take (length pattern) apriori)) (front1 ++ drop (length pattern) apriori)
    handed = handed_on_lem format next words pattern channel1 channel2 fits.permutes (few1 fits) prior _ _ extrinsics1 (one.said refl) on

    pub second_may : {g' x' : ℕ} → g' ≡ g → x' ≡ x → length work1 ≡ length w →
        Passing next words (sections2_by format pattern) channel2 (front1 ++ drop (length pattern) apriori) o g' x' work1
    second_may eg ex ew = second_passing_at (refitted fits refl refl refl eg ex ew one.clear) handed _ refl

    pub both_ran : {v : Unit {0}} {marks2 : List ℕ} {margins2 extrinsics2 work2 front2 : List ℤ} →
        Passed next words format.second (sections2_by format pattern) channel2 (front1 ++ drop (length pattern) apriori) (Ok v) marks2 margins2 extrinsics2 work2 →
        front2 ≡ deinterleave (pos 0) pattern (map hand_over (take (length pattern) extrinsics2)) →
        Iterated format next words pattern channel1 channel2 (take (length pattern) apriori) (Ok tt)
        (front2 ++ drop (length pattern) (front1 ++ drop (length pattern) apriori)) marks1 marks2 margins2 extrinsics2 work2
    both_ran {extrinsics2 = extrinsics2} two back = record {
      reply = both_pass (pathless (table_by next words) format.first (sections1_by format pattern)) (pathless (table_by next words) format.second (sections2_by format pattern)) one.reply refl two.reply;
      free = λ d. marks_free _ _ format.first (length pattern) _ marks1 (omega arith) (one.said refl);
      said = λ d. said_over format next words pattern channel1 channel2 (few2 fits) (take (length pattern) apriori) handed _ _ _ (two.said refl);
      handed = λ d. handed_back format next words pattern channel1 channel2 (few2 fits) (take (length pattern) apriori) handed _ _ extrinsics2 (two.said refl) back;
      clear = two.clear;
    }
