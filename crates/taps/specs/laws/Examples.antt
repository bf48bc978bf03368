-- Two codes by their taps: the house code, and the eight-state code of 3GPP TS 36.212.
-- Assumes nothing.
use Rattle.std.specs.Prelude.{◌≡◌, refl, [], ◌∷◌}
use Rattle.std.specs.Int.Count.{ones_in, ones}
use Rattle.lists.specs.Lists.{listed}
use Rattle.house.specs.House.{house_parity, house_next, house}
use Rattle.taps.specs.Taps.{odd_under, new_bit, register_of, taps_next, taps_parity, taps_table}

taps_7_and_5_build_the_house_table : taps_table 2 7 5 ≡ house
unfolding taps_table taps_next taps_parity register_of new_bit odd_under ones ones_in house house_next house_parity listed
taps_7_and_5_build_the_house_table = refl

taps_13_and_11_build_the_eight_state_table : taps_table 3 13 11 ≡ record {
  states = 8;
  outputs = 2;
  next = 0 ∷ 1 ∷ 2 ∷ 3 ∷ 5 ∷ 4 ∷ 7 ∷ 6 ∷ 1 ∷ 0 ∷ 3 ∷ 2 ∷ 4 ∷ 5 ∷ 6 ∷ 7 ∷ [];
  words = 0 ∷ 3 ∷ 2 ∷ 1 ∷ 2 ∷ 1 ∷ 0 ∷ 3 ∷ 0 ∷ 3 ∷ 2 ∷ 1 ∷ 2 ∷ 1 ∷ 0 ∷ 3 ∷ [];
}
unfolding taps_table taps_next taps_parity register_of new_bit odd_under ones ones_in listed
taps_13_and_11_build_the_eight_state_table = refl
