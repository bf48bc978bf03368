-- A frame that passed the checks is the frame by its lists alone, and a decoding of the one is a decoding of the other.
-- Assumes nothing.
use Rattle.std.specs.Prelude.{◌≡◌, refl, List, eqb, ℕ, ◌+◌, ◌*◌, ◌/◌, ◌≤◌, ℤ, pos, length, replicate}
use Rattle.std.proofs.Common.{sym, ap, ap₂, subst, ◌∙◌, arith, eqb-true}
use native.Mathlib.Nat.{mul-le-mul}
use Rattle.lists.specs.laws.Tests.{and_right}
use Rattle.refusal.specs.Refusals.{Reply}
use Rattle.trellis.specs.Table.{systematic}
use Rattle.trellis.specs.laws.Branches.{shaped_is}
use Rattle.frame.specs.Frame.{Frame, frame_of, tail_of, tail1, tail2, sections1, sections2, longer, sizes_fit, codes}
use Rattle.frame.proofs.laws.Checked.{Framed, checked, sections_fit_lem}
use Rattle.decoder.specs.Decoder.{DecodeLent}
use Rattle.decoder.specs.Lent.{decode_result_of}
use Rattle.decoder.specs.laws.Decodable.{Decodable}
use Rattle.decoder.specs.laws.Finishing.{Finished}
use Rattle.decoder.specs.laws.Format.{format_of}
use Rattle.decoder.specs.laws.Gathering.{Gathered, channel1_small, channel2_small}
use Rattle.decoder.specs.laws.Iterating.{read_format, Fitting}
use Rattle.decoder.specs.laws.Passing.{Zeros}
use Rattle.decoder.specs.laws.Settled.{walked, finished_is}

module _ (f : Frame) where
  abbrev read : Frame
  read = frame_of (read_format (format_of f) f.table.next f.pattern) f.table.next f.table.words f.pattern f.masks

  abbrev by : ℕ → ℕ → ℕ → Frame
  by states outputs bits =
      frame_of
      (record {
        states = states;
        outputs = outputs;
        bits = bits;
        tail = f.tail;
        first = f.first;
        second = f.second;
      })
      f.table.next f.table.words f.pattern f.masks

  pub reads : Framed f → read ≡ f
  unfolding codes
  reads w =
      let half : length f.table.next / 2 ≡ f.table.states = omega (arith, (shaped_is f.table w.shape).next_length) in
      let two : 2 ≡ f.table.outputs = sym (eqb-true f.table.outputs 2 (and_right (systematic f.table) (eqb f.table.outputs 2) w.codes)) in
      ap₂ (λ (s o : ℕ). by s o (length f.pattern)) half two ∙ ap (by f.table.states f.table.outputs) w.pattern_long

-- the rows of each pass are within those of the longer
rows_within : (m n s w : ℕ) → w ≡ (n + 1) * s → m ≤ n → (m + 1) * s ≤ w
rows_within m n s w e h =
    let few : m + 1 ≤ n + 1 = omega arith in
    let same : s ≤ s = omega arith in
    rw e (mul-le-mul few same)

-- the same tails
gathered_by : {p : List ℕ} {x x' y y' : ℕ} {masks : List ℕ} {received first second : List ℤ} → x ≡ x' → y ≡ y' →
    Gathered p x y masks received first second → Gathered p x' y' masks received first second
gathered_by e g h = rw (e, g) at h

module _ (f : Frame) (received : List ℤ) (iterations : ℕ) (l : DecodeLent) (w : Decodable (record { frame = f; received = received; iterations = iterations }) l)
    {t1 t2 : ℕ} {channel1 channel2 : List ℤ} (is1 : t1 ≡ tail_of f.first f.tail) (is2 : t2 ≡ tail_of f.second f.tail)
    (gathered : Gathered f.pattern t1 t2 f.masks received channel1 channel2) where
  by_lists : Decodable (record { frame = read f; received = received; iterations = iterations }) l
  by_lists = subst (λ (g : Frame). Decodable (record { frame = g; received = received; iterations = iterations }) l) (sym (reads f w.framed)) w

  tailed : Gathered f.pattern (tail_of f.first f.tail) (tail_of f.second f.tail) f.masks received channel1 channel2
  tailed = gathered_by is1 is2 gathered

  -- what the passes rely on
  pub fitting : {work : List ℤ} → length channel1 ≡ 2 * (length f.pattern + t1) → length channel2 ≡ 2 * (length f.pattern + t2) →
      length work ≡ length l.work → Zeros work →
      Fitting (format_of f) f.table.next f.table.words f.pattern channel1 channel2 4096 4096 4096 4096 4096 work
  unfolding sizes_fit longer sections1 sections2 tail1 tail2
  fitting {work} long1 long2 long zeros =
      let pre = by_lists in
      let p = (checked (read f) pre.framed).permutes in
      record {
        shape = pre.framed.shape;
        branches = pre.framed.branches;
        fits1 = sections_fit_lem f.first (length f.pattern) f.tail pre.framed.sizes;
        fits2 = sections_fit_lem f.second (length f.pattern) f.tail pre.framed.sizes;
        permutes = p;
        permuting = pre.framed.permutes;
        channel1_long = long1 ∙ ap (λ (n : ℕ). 2 * (length f.pattern + n)) is1;
        channel2_long = long2 ∙ ap (λ (n : ℕ). 2 * (length f.pattern + n)) is2;
        channel1_small = channel1_small p tailed pre.values;
        channel2_small = channel2_small p tailed pre.values;
        apriori_long = refl;
        marks1_long = refl;
        marks2_long = refl;
        margins_long = refl;
        extrinsics_long = refl;
        work_room1 = rows_within _ _ _ _ (long ∙ pre.work_long) (omega arith);
        work_room2 = rows_within _ _ _ _ (long ∙ pre.work_long) (omega arith);
        zeros = zeros;
      }

  pub decoded_by : {r : Reply} {bits : List ℕ} {margins extrinsics work : List ℤ} → length work ≡ length l.work →
      Finished (format_of f) f.table.next f.table.words f.pattern channel1 channel2 (replicate (length f.pattern) (pos 0)) iterations r
      l.bits bits l.margins margins l.extrinsics extrinsics work →
      decode_result_of r bits margins extrinsics work ≡ walked (record { frame = f; received = received; iterations = iterations }) l
  decoded_by {r} {bits} {margins} {extrinsics} {work} long finished =
      subst
      (λ (g : Frame). decode_result_of r bits margins extrinsics work ≡ walked (record { frame = g; received = received; iterations = iterations }) l)
      (reads f w.framed)
      (finished_is (format_of f) f.table.next f.table.words f.pattern f.masks received iterations _ _ tailed _ _ _ _ _ _ _ l.work _ long finished)
