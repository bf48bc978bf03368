-- Demand 3 for the frame decoder, the statement: what a whole decoding is, from the values lent to the lists written (document 01, "Frame").
-- Every outcome is said over the paths of the pass's own end; no recursion over states and no listing of paths is named here.
-- Assumes nothing.
use Rattle.std.specs.Prelude.{◌≡◌, ◌↔◌, ◌⊎◌, List, ℕ, suc, ◌-◌, ◌≤◌, ◌<◌, ℤ, pos, length, get_or, replicate, Ok, Err}
use Rattle.std.proofs.Math.Option.{Option, some, Option-elim}
use Rattle.refusal.specs.declared.Refusal.TheVariants.{NoPath, ForcedPosition}
use Rattle.trellis.specs.declared.End.{End}
use Rattle.trellis.specs.declared.Outcome.{Outcome}
use Rattle.trellis.specs.declared.Outcome.TheVariants.{Free}
use Rattle.trellis.specs.Table.{Table}
use Rattle.trellis.specs.Path.{Values, apriori_at}
use Rattle.trellis.specs.Outcome.{margin, intrinsic, extrinsic}
use Rattle.frame.specs.Frame.{Frame, sections_of, flags, spread}
use Rattle.soft.specs.Soft.{hand_over, decided}
use Rattle.decoder.specs.Decoder.{channel1, channel2, DecodeCall, DecodeLent, DecodeResult}
use Rattle.demands.specs.Meaning.{SomePath, IsEmptyClass, Means}

-- ---- one pass

-- the values that a pass reads, and the outcome that it says of each of its positions
pub record Pass : Type 0 where
  pub values : Values
  pub said : ℕ → Option Outcome

-- the margin at position k; 0 where it is forced or there is no path
unfoldable pub margin_at : Pass → ℕ → ℤ
margin_at p k = Option-elim (p.said k) (pos 0) margin

-- the extrinsic at position k: the margin without its intrinsic part; 0 where it is forced or there is no path
unfoldable pub extrinsic_at : Table → Pass → ℕ → ℤ
extrinsic_at t p k = Option-elim (p.said k) (pos 0) (extrinsic (intrinsic t p.values k))

-- a pass by its coder's end that reads these channel values: an a-priori value a section, 0 at tail positions, and the outcome at each position,
-- tail positions included, is what the paths say
pub record IsPass (f : Frame) (end : End) (channel : List ℤ) (p : Pass) : Type 0 where
  pub reads : p.values.channel ≡ channel
  pub long : length p.values.apriori ≡ sections_of f end
  pub tail : (k : ℕ) → f.bits ≤ k → k < sections_of f end → apriori_at p.values k ≡ pos 0
  pub means : (k : ℕ) → k < sections_of f end → Means f.table p.values end (sections_of f end) k (p.said k)

-- ---- all passes

-- pattern(k)
unfoldable pub pattern_at : Frame → ℕ → ℕ
pattern_at f k = get_or f.pattern k 0

-- the passes of n iterations, `first i` pass 1 and `second i` pass 2 of iteration i, where r has a value for every place of the frame. The very
-- first pass has the a-priori values 0. Then each pass has what the other's extrinsics hand over, put in its own order: pass 2's position k is
-- message position pattern(k)
pub record AreIterations (f : Frame) (r : List ℤ) (n : ℕ) (first second : ℕ → Pass) : Type 0 where
  pub pass_1 : (i : ℕ) → i < n → IsPass f f.first (channel1 f r) (first i)
  pub pass_2 : (i : ℕ) → i < n → IsPass f f.second (channel2 f r) (second i)
  pub starts : (k : ℕ) → k < f.bits → apriori_at (first 0).values k ≡ pos 0
  pub hands_on : (i : ℕ) → i < n → (k : ℕ) → k < f.bits →
      apriori_at (second i).values k ≡ hand_over (extrinsic_at f.table (first i) (pattern_at f k))
  pub hands_back : (i : ℕ) → suc i < n → (k : ℕ) → k < f.bits →
      apriori_at (first (suc i)).values (pattern_at f k) ≡ hand_over (extrinsic_at f.table (second i) k)

-- ---- the whole call

-- the lists written are those of a pass 2, deinterleaved: K entries each, and at pattern(k) what the pass says of its position k, which is free
pub record FrameListsWritten (f : Frame) (p : Pass) (l : DecodeLent) : Type 0 where
  pub bits_long : length l.bits ≡ f.bits
  pub margins_long : length l.margins ≡ f.bits
  pub extrinsics_long : length l.extrinsics ≡ f.bits
  pub free : (k : ℕ) → k < f.bits → p.said k ≡ some (Free (margin_at p k))
  pub bit : (k : ℕ) → k < f.bits → get_or l.bits (pattern_at f k) 0 ≡ decided (margin_at p k)
  pub margin : (k : ℕ) → k < f.bits → get_or l.margins (pattern_at f k) (pos 0) ≡ margin_at p k
  pub extrinsic : (k : ℕ) → k < f.bits → get_or l.extrinsics (pattern_at f k) (pos 0) ≡ extrinsic_at f.table p k

-- the result lists are as they were lent
pub record FrameListsKept (lent left : DecodeLent) : Type 0 where
  pub bits : left.bits ≡ lent.bits
  pub margins : left.margins ≡ lent.margins
  pub extrinsics : left.extrinsics ≡ lent.extrinsics

-- each coder has a path
abbrev pub BothPaths : Frame → Type 0
BothPaths f = SomePath f.table f.first (sections_of f f.first) × SomePath f.table f.second (sections_of f f.second)

-- a message position one of whose classes is empty, of the paths of an end
pub record SomeEmpty (f : Frame) (end : End) : Type 0 where
  pub position : ℕ
  pub in_message : position < f.bits
  pub bit : ℕ
  pub is_bit : bit < 2
  pub empty : IsEmptyClass f.table end (sections_of f end) position bit

-- the same in either coder
abbrev pub EitherEmpty : Frame → Type 0
EitherEmpty f = SomeEmpty f f.first ⊎ SomeEmpty f f.second

-- what a call with no refusal but 12 or 13 comes to. A path takes no values, so a coder's pass has the same paths in every iteration: 12 is given
-- exactly where not each coder has one, 13 exactly where each has and a message position is forced in either, and otherwise the lists are those of
-- the last pass 2. An unsent value is received as 0
pub record IsDecoding (c : DecodeCall) (lent : DecodeLent) (result : DecodeResult) : Type 0 where
  pub first : ℕ → Pass
  pub second : ℕ → Pass
  pub iterations : AreIterations c.frame (spread (pos 0) (flags c.frame) c.received) c.iterations first second
  pub no_path : (result.reply ≡ Err NoPath) ↔ (BothPaths c.frame → ⊥)
  pub forced : (result.reply ≡ Err ForcedPosition) ↔ (BothPaths c.frame × EitherEmpty c.frame)
  pub done : (result.reply ≡ Ok tt) ↔ (BothPaths c.frame × (EitherEmpty c.frame → ⊥))
  pub written : result.reply ≡ Ok tt → FrameListsWritten c.frame (second (c.iterations - 1)) result.lists
  pub kept : (result.reply ≡ Ok tt → ⊥) → FrameListsKept lent result.lists
  pub cleared : result.lists.work ≡ replicate (length lent.work) (pos 0)
