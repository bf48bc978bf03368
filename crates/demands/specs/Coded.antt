-- Demand 2 for the coder, the statement: what a whole call is, over the paths of each coder's end; and what it writes, a frame for a message.
-- Assumes nothing.
use Rattle.std.specs.Prelude.{◌≡◌, ◌↔◌, false, cond, List, ◌++◌, ℕ, ◌<◌, length, get_or, Ok, Err}
use Rattle.refusal.specs.declared.Refusal.TheVariants.{NoTail}
use Rattle.trellis.specs.declared.End.{End}
use Rattle.trellis.specs.Path.{TrellisPath}
use Rattle.trellis.specs.Best.{IsBits, IsPath}
use Rattle.frame.specs.Interleaver.{interleave}
use Rattle.frame.specs.Frame.{Frame, sections_of, frame_length, flags, spread}
use Rattle.coder.specs.Coder.{places, EncodeCall, EncodeResult}
use Rattle.coder.specs.Tail.{Before}

-- a path of a coder's end that begins with its own inputs; where there is none, 14
pub record SomeOwnPath (f : Frame) (end : End) (inputs : List ℕ) : Type 0 where
  pub path : TrellisPath
  pub tail : List ℕ
  pub whole : path.bits ≡ inputs ++ tail
  pub is_path : IsPath f.table end (sections_of f end) path

-- the path of a coder by its end: its own K inputs and a tail. No lower state starts a path with these inputs, and no tail that comes before this one in
-- dictionary order makes one. So zero starts in state 0 and has the first tail that leads back, open has no tail and starts in state 0, and ring has no
-- tail and starts in the lowest state that its inputs return to itself
pub record IsCoderPath (f : Frame) (end : End) (inputs : List ℕ) (path : TrellisPath) : Type 0 where
  pub own : IsBits f.bits inputs
  pub tail : List ℕ
  pub whole : path.bits ≡ inputs ++ tail
  pub is_path : IsPath f.table end (sections_of f end) path
  pub lowest_start : (s : ℕ) → s < path.start → IsPath f.table end (sections_of f end) (record { start = s; bits = path.bits }) → ⊥
  pub first_tail : (q : List ℕ) → Before q tail → IsPath f.table end (sections_of f end) (record { start = path.start; bits = inputs ++ q }) → ⊥

-- a frame for a message: it is as long as its masks and its ends say, and, spread out, has every sent bit in its place and 0 elsewhere
pub record IsFrame (f : Frame) (message sent : List ℕ) : Type 0 where
  pub first : TrellisPath
  pub second : TrellisPath
  pub first_coder : IsCoderPath f f.first message first
  pub second_coder : IsCoderPath f f.second (interleave 0 f.pattern message) second
  pub long : length sent ≡ frame_length f
  pub in_place : (i : ℕ) → get_or (spread 0 (flags f) sent) i 0 ≡ cond (get_or (flags f) i false) (get_or (places f first second) i 0) 0

-- each coder has a path of its end with its own inputs
abbrev pub BothOwnPaths : EncodeCall → Type 0
BothOwnPaths c =
    let f = c.frame in
    SomeOwnPath f f.first c.message × SomeOwnPath f f.second (interleave 0 f.pattern c.message)

-- what a call with no refusal but 14 comes to: 14 is given exactly where not each coder has a path of its end with its own inputs, and otherwise the
-- list holds a frame for the message
pub record IsCoding (c : EncodeCall) (lent : List ℕ) (result : EncodeResult) : Type 0 where
  pub no_tail_lem : (result.reply ≡ Err NoTail) ↔ (BothOwnPaths c → ⊥)
  pub done : (result.reply ≡ Ok tt) ↔ BothOwnPaths c
  pub written : result.reply ≡ Ok tt → IsFrame c.frame c.message result.sent
  pub kept : (result.reply ≡ Ok tt → ⊥) → result.sent ≡ lent
