-- What a decoding leaves once its last iteration is done, by what the result lists are.
-- Assumes nothing.
use Rattle.std.specs.Prelude.{Ok, ◌≡◌, refl, true, List, ℕ, ◌≤◌, ℤ, length, take}
use Rattle.std.proofs.Common.{arith, length-take-le}
use borrow.Author.Tests.{le-leb}
use Rattle.lists.specs.laws.Tests.{and_true}
use Rattle.refusal.specs.Refusals.{Reply}
use Rattle.frame.specs.declared.FrameFormat.{FrameFormat}
use Rattle.frame.specs.Interleaver.{permutes}
use Rattle.result.specs.Result.{conclude, conclude_call_of, conclude_lent_of, conclude_result_of}
use Rattle.result.specs.laws.Concluding.{concluded, lengths_fit}
use Rattle.decoder.specs.laws.Finishing.{Finished}
use Rattle.decoder.specs.laws.Running.{Ended}
use Rattle.decoder.proofs.laws.Finishing.{finished_late}

pub ended_concluded : {format : FrameFormat} {next words : List ℕ} (pattern : List ℕ) {channel1 channel2 a : List ℤ} {iterations : ℕ} {u : Unit {0}}
    {marks1 marks2 : List ℕ} {margins2 extrinsics2 work : List ℤ} {r : Reply} {bits bits' : List ℕ} {margins margins' extrinsics extrinsics' : List ℤ} →
    permutes (length pattern) pattern ≡ true → length pattern ≤ 4096 →
    length marks1 ≡ 4096 → length marks2 ≡ 4096 → length margins2 ≡ 4096 → length extrinsics2 ≡ 4096 →
    length bits ≡ length pattern → length margins ≡ length pattern → length extrinsics ≡ length pattern →
    Ended format next words pattern channel1 channel2 a iterations (Ok u) marks1 marks2 margins2 extrinsics2 work →
    conclude_result_of r bits' margins' extrinsics'
    ≡ conclude
    (conclude_call_of pattern (take (length pattern) marks1) (take (length pattern) marks2) (take (length pattern) margins2) (take (length pattern) extrinsics2))
    (conclude_lent_of bits margins extrinsics) →
    Finished format next words pattern channel1 channel2 a iterations r bits bits' margins margins' extrinsics extrinsics' work
ended_concluded pattern permuting few m o g x b h y ended e =
    let fits =
    lengths_fit _ _ (length-take-le _ _ (omega arith)) (length-take-le _ _ (omega arith)) (length-take-le _ _ (omega arith)) (length-take-le _ _ (omega arith)) b h y in
    let told = concluded _ _ fits (and_true (le-leb _ _ few) permuting) e in
    finished_late ended refl told.reply told.bits_are told.margins_are told.extrinsics_are
