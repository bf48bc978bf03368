-- The index of the first value outside a limit, over any limit and any list: the value there is outside and none before it is, and of no other index is
-- that so.
-- Assumes nothing.
use Rattle.std.specs.Prelude.{◌≡◌, false, List, ℕ, ℤ, pos}
use borrow.Author.Tests.{le-leb, lt-leb, leb-true, leb-false}
use Rattle.integers.specs.Integers.{inside}
use Rattle.lists.specs.Lists.{every}
use Rattle.lists.specs.laws.First.{first_is, first_fails}
use Rattle.trellis.specs.Limits.{first_outside, IsFirstOutside}

module _ (limit : ℕ) (xs : List ℤ) where
  pub first_outside_is : every (inside limit) xs ≡ false → IsFirstOutside limit xs (first_outside limit xs)
  unfolding first_outside inside
  first_outside_is e =
      let first = first_fails (inside limit) (pos 0) xs e in
      record {
        in_list = first.in_list;
        outside = leb-false _ limit first.fails;
        inside_before = λ j l. leb-true _ limit (first.passed j l);
      }

  pub first_outside_only : (i : ℕ) → IsFirstOutside limit xs i → first_outside limit xs ≡ i
  unfolding first_outside inside
  first_outside_only i h =
      first_is (inside limit) (pos 0) xs i (record {
        in_list = h.in_list;
        fails = lt-leb _ limit h.outside;
        passed = λ j l. le-leb _ limit (h.inside_before j l);
      })
