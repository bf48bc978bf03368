-- What a search for the first value outside a limit tells: its index, or the list's length.
-- Assumes nothing.
use Rattle.std.specs.Prelude.{◌≡◌, List, ℕ, ℤ, Some, None, not, pos, length}
use Rattle.std.specs.List.{position}
use Rattle.std.specs.Option.{unwrap_or}
use Rattle.std.proofs.Common.{◌∙◌, sym, ap, arith}
use Rattle.integers.specs.Integers.{inside}
use Rattle.lists.specs.laws.First.{first_inside}
use Rattle.lists.specs.laws.Chains.{failing_position, found_or_end}
use Rattle.trellis.specs.Limits.{first_outside}

module _ (limit : ℕ) (xs : List ℤ) where
  pub outside_or_end : unwrap_or (position (λ x. not (inside limit x)) xs) (length xs) ≡ first_outside limit xs
  unfolding first_outside
  outside_or_end =
      found_or_end _ (length xs) (omega (arith, first_inside (inside limit) (pos 0) xs, failing_position (inside limit) xs)) ∙ sym (failing_position (inside limit) xs)

  pub outside_at : (i : ℕ) → position (λ x. not (inside limit x)) xs ≡ Some i → first_outside limit xs ≡ i
  outside_at i e = sym outside_or_end ∙ ap (λ o. unwrap_or o (length xs)) e

  pub outside_none : position (λ x. not (inside limit x)) xs ≡ None → first_outside limit xs ≡ length xs
  outside_none e = sym outside_or_end ∙ ap (λ o. unwrap_or o (length xs)) e

pub ruleset places = (outside_or_end, outside_at, outside_none)
