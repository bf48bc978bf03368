-- The definitions give every case marked P its answer: one theorem, computed over the whole list.
-- Assumes nothing.
use Rattle.std.specs.Prelude.{◌≡◌, refl, map}
use Rattle.cases.specs.Cases.{computed, untouched, zeros, follower, trap, ended_frame, plain_frame, lent_to, cases}

pub cases_hold : map computed cases ≡ cases
unfolding computed cases untouched zeros follower trap ended_frame plain_frame lent_to
cases_hold = refl
