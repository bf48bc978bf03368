-- After all passes: 12 where there is no path, 13 where a message position is forced, and else the lists of the last pass 2 in message order.
-- Assumes nothing.
use Rattle.std.specs.Prelude.{◌≡◌, Bool, true, false, not, ◌&&◌, ◌||◌, List, map, ℕ, ◌-◌, eqb, ℤ, pos, length, take, Ok, Err}
use Rattle.std.proofs.Math.Path.{refl, sym, ap}
use Rattle.std.proofs.Common.{◌∙◌, arith}
use Rattle.lists.specs.Lists.{every, any, upto}
use Rattle.refusal.specs.declared.Refusal.{Refusal}
use Rattle.refusal.specs.declared.Refusal.TheVariants.{ForcedPosition}
use Rattle.refusal.specs.Refusals.{Reply, check, first_of, after}
use Rattle.refusal.specs.laws.Checks.{done_then, refused_then, done_after}
use Rattle.frame.specs.declared.FrameFormat.{FrameFormat}
use Rattle.trellis.specs.Outcome.{forced}
use Rattle.frame.specs.Frame.{tail1, tail2, sections1, sections2}
use Rattle.frame.specs.Interleaver.{deinterleave}
use Rattle.soft.specs.Soft.{decided}
use Rattle.decoder.specs.Decoder.{handed_on, iteration, prior_after, last_pass, both_walked, both_free, decode_path_checks}
use Rattle.decoder.specs.laws.Passing.{table_by}
use Rattle.decoder.specs.laws.Iterating.{frame_by, sections1_by, sections2_by}
use Rattle.decoder.proofs.laws.Handing.{take_front, margins_said, extrinsics_said, marks_free}
use Rattle.decoder.specs.laws.Running.{Ended}
use Rattle.decoder.specs.laws.Finishing.{Finished}

-- neither test fails exactly where neither fails
not_either : (b d : Bool) {x y : Bool} → x ≡ not b → y ≡ not d → (x && y) ≡ not (b || d)
not_either true d e g = rw e
not_either false d e g = rw (e, g)

module _ {format : FrameFormat} {next words pattern : List ℕ} {channel1 channel2 a : List ℤ} {iterations : ℕ} {q : Reply}
    {marks1 marks2 : List ℕ} {margins2 extrinsics2 work : List ℤ}
    (ended : Ended format next words pattern channel1 channel2 a iterations q marks1 marks2 margins2 extrinsics2 work) where
  -- 12: nothing is written
  pub finished_early : {x : Refusal} (bits : List ℕ) (margins extrinsics : List ℤ) → q ≡ Err x →
      Finished format next words pattern channel1 channel2 a iterations q bits bits margins margins extrinsics extrinsics work
  unfolding after decode_path_checks first_of both_walked sections1 sections2 tail1 tail2
  finished_early bits margins extrinsics e = record {
    reply = e ∙ sym (refused_then _ (sym ended.reply ∙ e));
    bits_are = rw e refl;
    margins_are = rw e refl;
    extrinsics_are = rw e refl;
    clear = ended.clear;
  }

  -- a path: 13, or the lists
  pub finished_late : {r : Reply} {bits bits' : List ℕ} {margins margins' extrinsics extrinsics' : List ℤ} → q ≡ Ok tt →
      r ≡ check (every (λ m. eqb m 2) (take (length pattern) marks1) && every (λ m. eqb m 2) (take (length pattern) marks2)) ForcedPosition →
      bits' ≡ after r (deinterleave 0 pattern (map decided (take (length pattern) margins2))) bits →
      margins' ≡ after r (deinterleave (pos 0) pattern (take (length pattern) margins2)) margins →
      extrinsics' ≡ after r (deinterleave (pos 0) pattern (take (length pattern) extrinsics2)) extrinsics →
      Finished format next words pattern channel1 channel2 a iterations r bits bits' margins margins' extrinsics extrinsics' work
  unfolding last_pass iteration decode_path_checks first_of both_walked both_free sections1 sections2 tail1 tail2
  finished_late {r} {bits} {bits'} {margins} {margins'} {extrinsics} {extrinsics'} done e b m x =
      let says = ended.says done in
      let said = says.said in
      let n = sections2_by format pattern in
      let frame = frame_by format next words pattern in
      let handed = handed_on frame channel1 (prior_after frame channel1 channel2 a (iterations - 1)) in
      let free2 = marks_free (table_by next words) _ format.second (length pattern) n marks2 (omega arith) said in
      let says-margins = sym (take_front margins2 (length pattern) n (omega arith)) ∙ margins_said frame format.second channel2 handed refl said in
      let says-extrinsics = sym (take_front extrinsics2 (length pattern) n (omega arith)) ∙ extrinsics_said frame format.second channel2 handed refl said in
      record {
        reply = e ∙ ap (λ (b : Bool). check b ForcedPosition) (not_either (any (forced (table_by next words) format.first (sections1_by format pattern)) (upto (length pattern))) (any (forced (table_by next words) format.second n) (upto (length pattern))) says.free free2) ∙ done_after _ refl ∙ sym (done_then (sym ended.reply ∙ done));
        bits_are = rw says-margins at b;
        margins_are = rw says-margins at m;
        extrinsics_are = rw says-extrinsics at x;
        clear = ended.clear;
      }
