-- The bench cases of document 01 that are marked P, in one list, each with its answer; and the answer that the definitions give.
-- Assumes nothing.
use mathlib.Core.List.{List, [], ◌∷◌, get_last_d}
use Rattle.std.proofs.Math.Option.{Option, some, Option-elim, bind, or_else}
use Rattle.std.specs.Prelude.{ℕ, ℤ, pos, negsuc, length, replicate, Ok, Err}
use Rattle.std.specs.Int.Count.{ones}
use Rattle.lists.specs.Lists as ByIndex
use Rattle.integers.specs.Integers
use Rattle.refusal.specs.declared.Refusal.TheVariants.{Lists, NoPath, ForcedPosition, NoTail}
use Rattle.refusal.specs.Refusals
use Rattle.trellis.specs.declared.End.{End}
use Rattle.trellis.specs.declared.End.TheVariants.{Zero}
use Rattle.trellis.specs.Table
use Rattle.trellis.specs.Table.{Table}
use Rattle.trellis.specs.Path
use Rattle.trellis.specs.Path.{TrellisPath}
use Rattle.trellis.specs.Limits
use Rattle.trellis.specs.Outcome
use Rattle.siso.specs.Decode as Lone
use Rattle.house.specs.House
use Rattle.house.specs.House.{house}
use Rattle.frame.specs.Interleaver
use Rattle.frame.specs.Frame
use Rattle.frame.specs.Frame.{Frame}
use Rattle.coder.specs.Coder
use Rattle.soft.specs.Soft
use Rattle.decoder.specs.Decoder
use Rattle.text.specs.Text
use Rattle.text.specs.Text.{bytes}
use Rattle.text.specs.Decimal
use Rattle.rows.specs.Rows
use Rattle.rows.specs.Lines
use Rattle.sheet.specs.Sheet

-- what is given, and the answer that document 01 has for it
pub data Case : Type 0 where
  lone_pass : Lone.Call → Lone.Lent → Lone.Result → Case
  sheet : List ℕ → List ℕ → Case
  interleaved : List ℕ → List ℕ → List ℕ → Case
  coder_path : Frame → List ℕ → Option TrellisPath → List ℕ → Case
  coded : Coder.EncodeCall → List ℕ → Coder.EncodeResult → Case
  decoded : Decoder.DecodeCall → Decoder.DecodeLent → Decoder.DecodeResult → Case
  frame_size : Frame → ℕ → Case

-- the same case with the definitions' answer
unfoldable pub computed : Case → Case
unfolding
    bind Option-elim or_else get_last_d ones
    ByIndex.listed ByIndex.joined ByIndex.keep ByIndex.every ByIndex.any ByIndex.first_failing ByIndex.count ByIndex.is_empty ByIndex.found ByIndex.upto
    Integers.max_ℤ Integers.min_ℤ Integers.inside Integers.limited Integers.half
    Refusals.told Refusals.number_of Refusals.check Refusals.◌then◌ Refusals.first_of Refusals.after Refusals.cleared
    Limits.sections_fit Limits.channel_fits Limits.apriori_fits Limits.first_outside
    Outcome.larger Outcome.greatest Outcome.best Outcome.outcome_of Outcome.outcome Outcome.pathless Outcome.forced Outcome.mark Outcome.margin Outcome.systematic_at Outcome.intrinsic Outcome.extrinsic Outcome.position_of Outcome.position Outcome.marks Outcome.margins Outcome.extrinsics
    Path.apriori_at Path.channel_at Path.signed Path.word_metric Path.branch_metric Path.metric_from Path.finish Path.metric Path.all_bits Path.terminating Path.admits Path.all_paths Path.paths Path.class
    Table.next_state Table.word Table.output Table.systematic Table.shaped Table.branched Table.table_checks
    Lone.lists_fit Lone.lent_checks Lone.path_checks Lone.checks Lone.settled Lone.decode
    Coder.tail_from Coder.ring_start Coder.coded_path Coder.parity_at Coder.section_at Coder.places Coder.sent_for Coder.encode_lists_fit Coder.encode_lent_checks Coder.encode_path_checks Coder.encode_checks Coder.encode_settled Coder.encode
    Soft.hand_over Soft.decided Decoder.channel1_under Decoder.channel1 Decoder.channel2_under Decoder.channel2 Decoder.pass Decoder.hand_on Decoder.hand_back Decoder.handed_on Decoder.iteration Decoder.prior_after Decoder.last_pass Decoder.decode_lists_fit Decoder.decode_lent_checks Decoder.both_walked Decoder.both_free Decoder.decode_path_checks Decoder.decode_checks Decoder.decode_settled Decoder.decode
    Frame.tail_of Frame.tail1 Frame.tail2 Frame.sections1 Frame.sections2 Frame.longer Frame.sizes_fit Frame.masks_fit Frame.codes Frame.mask_at Frame.mask_flags Frame.ones_to Frame.length_under Frame.frame_length Frame.flags_under Frame.flags Frame.puncture Frame.spread
    House.house_parity House.house_next House.house
    Interleaver.permutes Interleaver.place Interleaver.interleave Interleaver.deinterleave
    Decimal.numeral Decimal.natural Decimal.opposite Decimal.integer Decimal.digits_in Decimal.digits Decimal.decimal
    Rows.field_at Rows.dash Rows.value_or_unsent Rows.starts Rows.message_row Rows.tail_row
    Lines.lines_of Lines.last_piece Lines.row_count Lines.message_bits Lines.line_fits Lines.fault_from Lines.first_fault Lines.fault_line Lines.size_fits Lines.text_checks
    Sheet.message_at Sheet.tail_at Sheet.values_of Sheet.sheet_call_of Sheet.lent_for Sheet.row_values Sheet.value_line Sheet.sheet_checks Sheet.refusal_text Sheet.result_line Sheet.result_text Sheet.printed Sheet.answer
    Text.bytes Text.on_first Text.cut Text.same
computed (lone_pass c l r) = lone_pass c l (Lone.decode c l)
computed (sheet s a) = sheet s (Sheet.answer s)
computed (interleaved p xs ys) = interleaved p xs (Interleaver.interleave 0 p xs)
computed (coder_path f m p ps) =
    let path = Coder.coded_path f.table f.first f.tail m in
    coder_path f m path (Option-elim path [] (λ q. ByIndex.listed (Coder.parity_at f.table q) (length q.bits)))
computed (coded c l r) = coded c l (Coder.encode c l)
computed (decoded c l r) = decoded c l (Decoder.decode c l)
computed (frame_size f n) = frame_size f (Frame.frame_length f)

-- ---- what the cases share

-- lists as they are lent, and as a refusal leaves them
unfoldable pub untouched : ℕ → List ℤ → Lone.Lent
untouched n work = record { marks = replicate n 77; margins = replicate n (pos 77); extrinsics = replicate n (pos 77); work = work }

unfoldable pub zeros : ℕ → List ℤ
zeros n = replicate n (pos 0)

-- P3, P4: two states, next state = input, one output = input
unfoldable pub follower : Table
follower = record { states = 2; outputs = 1; next = 0 ∷ 1 ∷ 0 ∷ 1 ∷ []; words = 0 ∷ 1 ∷ 0 ∷ 1 ∷ [] }

-- P5: both branches of both states to state 1
unfoldable pub trap : Table
trap = record { states = 2; outputs = 1; next = 1 ∷ 1 ∷ 1 ∷ 1 ∷ []; words = 0 ∷ 1 ∷ 0 ∷ 1 ∷ [] }

-- a frame of the house code whose coders have these ends; document 01's have two zero ends
unfoldable pub ended_frame : End → End → ℕ → ℕ → List ℕ → List ℕ → Frame
ended_frame first second k t pattern masks =
    record { table = house; first = first; second = second; bits = k; tail = t; pattern = pattern; masks = masks }

unfoldable pub plain_frame : ℕ → ℕ → List ℕ → List ℕ → Frame
plain_frame = ended_frame Zero Zero

unfoldable pub lent_to : ℕ → List ℤ → Decoder.DecodeLent
lent_to k work = record { bits = replicate k 77; margins = replicate k (pos 77); extrinsics = replicate k (pos 77); work = work }

-- ---- the cases

unfoldable pub cases : List Case
cases =
    -- P1
    lone_pass
    (record {
      table = house;
      end = Zero;
      sections = 4;
      values = record {
        channel = pos 4 ∷ negsuc 0 ∷ negsuc 1 ∷ pos 2 ∷ pos 1 ∷ negsuc 4 ∷ pos 3 ∷ pos 6 ∷ [];
        apriori = zeros 4;
      };
    })
    (untouched 4 (replicate 20 (pos 77)))
    (record {
      reply = Ok tt;
      lists = record {
        marks = 2 ∷ 2 ∷ 2 ∷ 2 ∷ [];
        margins = negsuc 0 ∷ pos 1 ∷ pos 1 ∷ pos 10 ∷ [];
        extrinsics = negsuc 4 ∷ pos 3 ∷ pos 0 ∷ pos 7 ∷ [];
        work = zeros 20;
      };
    })
    -- P2
    ∷ sheet
    (bytes "at to sys par par2 sys2\n0 0 -3 5 - -\n1 - 2 -4 1 -6\n2 - 1 7 3 4\n")
    (bytes "at bit margin extrinsic\n0 1 9 1\n")
    -- P3
    ∷ lone_pass
    (record { table = follower; end = Zero; sections = 2; values = record { channel = pos 3 ∷ negsuc 6 ∷ []; apriori = pos 1 ∷ pos 0 ∷ [] } })
    (untouched 2 (replicate 6 (pos 77)))
    (record {
      reply = Ok tt;
      lists = record { marks = 2 ∷ 0 ∷ []; margins = pos 4 ∷ pos 0 ∷ []; extrinsics = pos 0 ∷ pos 0 ∷ []; work = zeros 6 };
    })
    -- P4
    ∷ lone_pass
    (record { table = follower; end = Zero; sections = 1; values = record { channel = pos 3 ∷ []; apriori = pos 1 ∷ [] } })
    (untouched 1 (replicate 4 (pos 77)))
    (record { reply = Ok tt; lists = record { marks = 0 ∷ []; margins = pos 0 ∷ []; extrinsics = pos 0 ∷ []; work = zeros 4 } })
    -- P5
    ∷ lone_pass
    (record { table = trap; end = Zero; sections = 2; values = record { channel = pos 3 ∷ negsuc 6 ∷ []; apriori = pos 1 ∷ pos 0 ∷ [] } })
    (untouched 2 (replicate 6 (pos 77)))
    (record { reply = Err NoPath; lists = untouched 2 (zeros 6) })
    -- P6
    ∷ interleaved
    (0 ∷ 3 ∷ 6 ∷ 1 ∷ 4 ∷ 8 ∷ 2 ∷ 5 ∷ 7 ∷ [])
    (2 ∷ 4 ∷ 3 ∷ 1 ∷ 8 ∷ 5 ∷ 9 ∷ 6 ∷ 0 ∷ [])
    (2 ∷ 1 ∷ 9 ∷ 4 ∷ 8 ∷ 0 ∷ 3 ∷ 5 ∷ 6 ∷ [])
    -- P7
    ∷ coder_path (plain_frame 1 2 (0 ∷ []) (7 ∷ [])) (1 ∷ []) (some (record { start = 0; bits = 1 ∷ 1 ∷ 1 ∷ [] })) (1 ∷ 0 ∷ 1 ∷ [])
    -- P8
    ∷ coded
    (record { frame = plain_frame 1 0 (0 ∷ []) (7 ∷ []); message = 1 ∷ [] })
    (replicate 3 77)
    (record { reply = Err NoTail; sent = replicate 3 77 })
    ∷ decoded
    (record { frame = plain_frame 1 0 (0 ∷ []) (7 ∷ []); received = zeros 3; iterations = 1 })
    (lent_to 1 (replicate 8 (pos 77)))
    (record { reply = Err ForcedPosition; lists = lent_to 1 (zeros 8) })
    -- P9
    ∷ frame_size (plain_frame 3 2 (0 ∷ 1 ∷ 2 ∷ []) (6 ∷ 5 ∷ [])) 14
    ∷ decoded
    (record { frame = plain_frame 3 2 (0 ∷ 1 ∷ 2 ∷ []) (6 ∷ 5 ∷ []); received = zeros 13; iterations = 1 })
    (lent_to 3 (replicate 24 (pos 77)))
    (record { reply = Err Lists; lists = lent_to 3 (replicate 24 (pos 77)) })
    ∷ []
