-- Demand 1, the statement: what every call of every entry is answered by, and what it leaves of the lists that were lent (document 01, "Refused frames and
-- calls").
-- Assumes nothing.
use Rattle.std.specs.Prelude.{◌≡◌, ◌⊎◌, List, [], ◌∷◌, map, ℕ, Float, ℤ, pos, length, replicate, Ok}
use Rattle.refusal.specs.Refusals.{Reply, told, number_of, Check}
use Rattle.refusal.specs.Replied.{IsReply}
use Rattle.taps.specs.Build.{TapsCall, TapsLent, taps_checks, taps_built}
use Rattle.polynomial.specs.Polynomial.{PatternCall, pattern_checks, pattern_built}
use Rattle.siso.specs.Decode.{Call, Lent, checks, decode as lone_decode}
use Rattle.coder.specs.Coder.{EncodeCall, encode_checks, encode}
use Rattle.decoder.specs.Decoder.{DecodeCall, DecodeLent, decode_checks, decode}
use Rattle.samples.specs.declared.Setting.{Setting}
use Rattle.samples.specs.Samples.{sample_checks, sample_values}
use Rattle.sheet.specs.Sheet.{answer}
use Rattle.demands.specs.Answered.{sheet_rules, IsAnswer}

-- ---- the numbers of each entry, in its order

abbrev pub lone_numbers : List ℕ
lone_numbers = 2 ∷ 3 ∷ 4 ∷ 5 ∷ 6 ∷ 16 ∷ 12 ∷ []

abbrev pub coder_numbers : List ℕ
coder_numbers = 2 ∷ 3 ∷ 4 ∷ 5 ∷ 7 ∷ 8 ∷ 9 ∷ 11 ∷ 14 ∷ []

abbrev pub decoder_numbers : List ℕ
decoder_numbers = 2 ∷ 3 ∷ 4 ∷ 5 ∷ 6 ∷ 8 ∷ 9 ∷ 10 ∷ 11 ∷ 12 ∷ 13 ∷ []

abbrev pub taps_numbers : List ℕ
taps_numbers = 2 ∷ 15 ∷ []

abbrev pub pattern_numbers : List ℕ
pattern_numbers = 15 ∷ 4 ∷ 5 ∷ 8 ∷ []

abbrev pub sample_numbers : List ℕ
sample_numbers = 5 ∷ 17 ∷ 18 ∷ []

-- 1 stands for the sheet's size, with line 0, and then for a line of it
abbrev pub sheet_numbers : List ℕ
sheet_numbers = 1 ∷ 1 ∷ 6 ∷ 8 ∷ []

-- those of a list of checks
abbrev pub numbers_of : List Check → List ℕ
numbers_of cs = map (λ c. (told c.refusal).number) cs

-- ---- a call

-- the replies after which the working list is all zeros
abbrev pub Clears : Reply → Type 0
Clears r = (r ≡ Ok tt) ⊎ ((number_of r ≡ 12) ⊎ (number_of r ≡ 13))

-- a call of an entry with these numbers and these checks. The reply is the refusal of the first check that fails, and done exactly where none does. A
-- refusal leaves the result lists, here taken together, as they were lent. The working list is all zeros after done, 12 and 13, and as it was after any
-- other number
pub record IsCall {A : Type 0} (numbers : List ℕ) (cs : List Check) (reply : Reply) (lent left : A) (work work' : List ℤ) : Type 0 where
  pub numbered : numbers_of cs ≡ numbers
  pub replied : IsReply cs reply
  pub kept : (reply ≡ Ok tt → ⊥) → left ≡ lent
  pub zeros : Clears reply → work' ≡ replicate (length work) (pos 0)
  pub work_kept : (Clears reply → ⊥) → work' ≡ work

-- ---- every entry

-- the result lists of the decoders and of the table's builder
abbrev pub lone_lists : Lent → List ℕ × (List ℤ × List ℤ)
lone_lists l = (l.marks, (l.margins, l.extrinsics))

abbrev pub frame_lists : DecodeLent → List ℕ × (List ℤ × List ℤ)
frame_lists l = (l.bits, (l.margins, l.extrinsics))

abbrev pub table_lists : TapsLent → List ℕ × List ℕ
table_lists l = (l.next, l.words)

-- whatever is lent. An entry that is lent no working list has an empty one here. A sheet's reply is in what is printed for it
pub record EveryCall : Type 0 where
  pub lone : (c : Call) (l : Lent) →
      let x = lone_decode c l in
      IsCall lone_numbers (checks c l) x.reply (lone_lists l) (lone_lists x.lists) l.work x.lists.work
  pub coder : (c : EncodeCall) (sent : List ℕ) →
      let x = encode c sent in
      IsCall coder_numbers (encode_checks c sent) x.reply sent x.sent [] []
  pub frame : (c : DecodeCall) (l : DecodeLent) →
      let x = decode c l in
      IsCall decoder_numbers (decode_checks c l) x.reply (frame_lists l) (frame_lists x.lists) l.work x.lists.work
  pub table : (c : TapsCall) (l : TapsLent) →
      let x = taps_built c l in
      IsCall taps_numbers (taps_checks c l) x.reply (table_lists l) (table_lists x.lists) [] []
  pub pattern : (c : PatternCall) (list : List ℕ) →
      let x = pattern_built c list in
      IsCall pattern_numbers (pattern_checks c (length list)) x.reply list x.pattern [] []
  pub samples : (s : Setting) (samples : List Float) (values : List ℤ) →
      let x = sample_values s samples values in
      IsCall sample_numbers (sample_checks s samples (length values)) x.reply values x.values [] []
  pub sheet : (bytes : List ℕ) → (numbers_of (sheet_rules bytes) ≡ sheet_numbers) × IsAnswer bytes (answer bytes)
