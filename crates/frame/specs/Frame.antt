-- A frame: its sizes, its masks, the places of its values and which of them are sent (document 01, "Frame").
-- Assumes nothing.
use Rattle.std.specs.Prelude.{Bool, true, false, cond, ◌&&◌, List, [], ◌∷◌, ◌++◌, ℕ, zero, suc, ◌+◌, ◌*◌, ◌/◌, ◌%◌, max, eqb, leb, ltb, length, get_or, replicate}
use Rattle.std.specs.Int.Count.{ones}
use Rattle.lists.specs.Lists.{joined, every}
use Rattle.trellis.specs.declared.End.{End}
use Rattle.trellis.specs.declared.End.TheVariants.{Zero, Open, Ring}
use Rattle.trellis.specs.Limits.{section_limit}
use Rattle.trellis.specs.Table.{Table, table_of, systematic}
use Rattle.frame.specs.declared.FrameFormat.{FrameFormat}

-- what coder and decoder agree on: the table, the end of each coder, K message bits, T tail sections, the pattern and the masks
pub record Frame : Type 0 where
  pub table : Table
  pub first : End
  pub second : End
  pub bits : ℕ
  pub tail : ℕ
  pub pattern : List ℕ
  pub masks : List ℕ

-- the same from what an entry is lent: the format, the table's two lists, the pattern and the masks
abbrev pub frame_of : FrameFormat → List ℕ → List ℕ → List ℕ → List ℕ → Frame
frame_of format next words pattern masks = record {
  table = table_of format.states format.outputs next words;
  first = format.first;
  second = format.second;
  bits = format.bits;
  tail = format.tail;
  pattern = pattern;
  masks = masks;
}

-- the tail sections of a coder: T where it ends at zero, and else none
unfoldable pub tail_of : End → ℕ → ℕ
tail_of Zero tail = tail
tail_of Open tail = 0
tail_of Ring tail = 0

unfoldable pub tail1 : Frame → ℕ
tail1 f = tail_of f.first f.tail

unfoldable pub tail2 : Frame → ℕ
tail2 f = tail_of f.second f.tail

-- the sections of a coder that has this end: K, and T more where it ends at zero
abbrev pub sections_of : Frame → End → ℕ
sections_of f end = f.bits + tail_of end f.tail

-- the sections of each coder, and of the longer one, which the working list is sized for
unfoldable pub sections1 : Frame → ℕ
sections1 f = sections_of f f.first

unfoldable pub sections2 : Frame → ℕ
sections2 f = sections_of f f.second

unfoldable pub longer : Frame → ℕ
longer f = max (sections1 f) (sections2 f)

-- K is at least 1, T is 0..4 and K + T at most 4,096 (not so: 4)
abbrev pub good_sizes : ℕ → ℕ → Bool
good_sizes bits tail = leb 1 bits && leb tail 4 && leb (bits + tail) section_limit

unfoldable pub sizes_fit : Frame → Bool
sizes_fit f = good_sizes f.bits f.tail

-- the entries of a decoder's working list: a row of metrics before each section of the longer coder, and one after the last. None for sizes
-- that are refused, and for more than 16 states
abbrev pub work_length : FrameFormat → ℕ
work_length format =
    cond (good_sizes format.bits format.tail && leb format.states 16)
    ((max (format.bits + tail_of format.first format.tail) (format.bits + tail_of format.second format.tail) + 1) * format.states)
    0

-- there are 1 to 32 iterations (not so: 10)
abbrev pub good_iterations : ℕ → Bool
good_iterations n = leb 1 n && leb n 32

-- the period, the length of the mask list, is 1..16, and a mask is below 8 (not so: 9)
abbrev pub good_masks : List ℕ → Bool
good_masks masks = leb 1 (length masks) && leb (length masks) 16 && every (λ m. ltb m 8) masks

unfoldable pub masks_fit : Frame → Bool
masks_fit f = good_masks f.masks

-- the table is systematic with two outputs (not so: 11)
abbrev pub good_coder : Table → Bool
good_coder t = systematic t && eqb t.outputs 2

unfoldable pub codes : Frame → Bool
codes f = good_coder f.table

-- ---- masks

-- the mask at position k: the masks repeat
unfoldable pub mask_at : List ℕ → ℕ → ℕ
mask_at masks k = get_or masks (k % length masks) 0

-- a mask is 4·systematic + 2·parity 1 + parity 2, a bit 1 meaning sent
unfoldable pub mask_flags : ℕ → List Bool
mask_flags m = eqb (m / 4 % 2) 1 ∷ eqb (m / 2 % 2) 1 ∷ eqb (m % 2) 1 ∷ []

-- the number of ones in the masks of the first k positions
unfoldable pub ones_to : List ℕ → ℕ → ℕ
ones_to masks zero = 0
ones_to masks (suc k) = ones_to masks k + ones (mask_at masks k)

-- the length of a frame of so many positions and tail sections in all: over the positions, the number of ones in its masks, plus 2 a tail section
unfoldable pub length_under : List ℕ → ℕ → ℕ → ℕ
length_under masks bits tails = ones_to masks bits + 2 * tails

unfoldable pub frame_length : Frame → ℕ
frame_length f = length_under f.masks f.bits (tail1 f + tail2 f)

-- ---- places: systematic, parity 1 and parity 2 of each position, then tail 1, then tail 2, each systematic then parity, section by section

-- which places are sent: those that the masks say, and all of the tail sections
unfoldable pub flags_under : List ℕ → ℕ → ℕ → List Bool
flags_under masks bits tails = joined (λ i. mask_flags (mask_at masks i)) bits ++ replicate (2 * tails) true

unfoldable pub flags : Frame → List Bool
flags f = flags_under f.masks f.bits (tail1 f + tail2 f)

module _ {A : Type 0} where
  -- the values of the places that are sent, in order
  unfoldable pub puncture : List Bool → List A → List A
  puncture [] xs = []
  puncture (true ∷ fs) [] = []
  puncture (true ∷ fs) (x ∷ xs) = x ∷ puncture fs xs
  puncture (false ∷ fs) [] = []
  puncture (false ∷ fs) (x ∷ xs) = puncture fs xs

  -- the sent values back in their places, and d in every other
  unfoldable pub spread : A → List Bool → List A → List A
  spread d [] xs = []
  spread d (true ∷ fs) [] = d ∷ spread d fs []
  spread d (true ∷ fs) (x ∷ xs) = x ∷ spread d fs xs
  spread d (false ∷ fs) xs = d ∷ spread d fs xs
