-- Worked frames of the house code through the definitions: the order of places and tails, which tail is first, which mask governs parity 2;
-- and document 001's interleaver, both ways.
-- Assumes nothing.
use Rattle.std.specs.Prelude.{◌≡◌, refl, List, [], ◌∷◌, map, ℕ}
use Rattle.std.proofs.Math.Option.{Option, some, bind}
use Rattle.lists.specs.Lists.{listed, joined, keep}
use Rattle.trellis.specs.declared.End.TheVariants.{Zero}
use Rattle.trellis.specs.Table.{next_state, word, output}
use Rattle.trellis.specs.Path.{finish, all_bits, terminating}
use Rattle.house.specs.House.{house, house_next, house_parity}
use Rattle.frame.specs.Interleaver.{place, interleave, deinterleave}
use Rattle.frame.specs.Frame.{Frame, tail1, tail2, tail_of, mask_at, mask_flags, flags_under, flags, puncture}
use Rattle.coder.specs.Coder.{tail_from, coded_path, parity_at, section_at, places, sent_for}

-- the house code, two message bits in the other order, two tail sections
swapped : List ℕ → Frame
swapped masks = record { table = house; first = Zero; second = Zero; bits = 2; tail = 2; pattern = 1 ∷ 0 ∷ []; masks = masks }

-- the frames sent for the message 1 0
sent_under : List ℕ → Option (List ℕ)
unfolding swapped sent_for coded_path tail_from places section_at parity_at flags tail1 tail2 tail_of flags_under mask_at mask_flags puncture interleave house house_next house_parity next_state word output finish all_bits terminating listed joined keep bind
sent_under masks = sent_for (swapped masks) (1 ∷ 0 ∷ [])

-- 110 011, then tail 1 as 01 11, then tail 2 as 10 11
tail_1_goes_before_tail_2 : sent_under (7 ∷ []) ≡ some (1 ∷ 1 ∷ 0 ∷ 0 ∷ 1 ∷ 1 ∷ 0 ∷ 1 ∷ 1 ∷ 1 ∷ 1 ∷ 0 ∷ 1 ∷ 1 ∷ [])
unfolding sent_under
tail_1_goes_before_tail_2 = refl

-- parity 2 is sent at position 0 and not at position 1, whatever message bits they are of
masks_go_by_position : sent_under (7 ∷ 6 ∷ []) ≡ some (1 ∷ 1 ∷ 0 ∷ 0 ∷ 1 ∷ 0 ∷ 1 ∷ 1 ∷ 1 ∷ 1 ∷ 0 ∷ 1 ∷ 1 ∷ [])
unfolding sent_under
masks_go_by_position = refl

-- the tails of 2, 3 and 4 sections from state 1: the first in dictionary order, which shows where T exceeds the memory
tails : List (Option (List ℕ))
unfolding sent_under
tails = map (tail_from house 1) (2 ∷ 3 ∷ 4 ∷ [])

the_first_tail_is_taken : tails ≡ some (1 ∷ 1 ∷ []) ∷ some (0 ∷ 0 ∷ 1 ∷ []) ∷ some (0 ∷ 0 ∷ 1 ∷ 0 ∷ []) ∷ []
unfolding tails
the_first_tail_is_taken = refl

-- document 001, section 7.4: its pattern, counted from 0, its list, and that list interleaved
pattern : List ℕ
pattern = 0 ∷ 3 ∷ 6 ∷ 1 ∷ 4 ∷ 8 ∷ 2 ∷ 5 ∷ 7 ∷ []

ordered : List ℕ
ordered = 2 ∷ 4 ∷ 3 ∷ 1 ∷ 8 ∷ 5 ∷ 9 ∷ 6 ∷ 0 ∷ []

interleaved : List ℕ
interleaved = 2 ∷ 1 ∷ 9 ∷ 4 ∷ 8 ∷ 0 ∷ 3 ∷ 5 ∷ 6 ∷ []

interleaving_mixes : interleave 0 pattern ordered ≡ interleaved
unfolding interleave pattern ordered interleaved
interleaving_mixes = refl

deinterleaving_orders : deinterleave 0 pattern interleaved ≡ ordered
unfolding deinterleave place listed pattern ordered interleaved
deinterleaving_orders = refl
