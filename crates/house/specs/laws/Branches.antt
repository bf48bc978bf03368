-- One test over two arrays of eight entries, and the rule that it gives at each: the next state and the parity there are those
-- of the state equations.
-- Assumes nothing.
use Rattle.std.specs.Prelude.{◌≡◌, Bool, true, ◌&&◌, [], ◌∷◌, ℕ, ◌+◌, ◌*◌, ◌/◌, ◌%◌, ◌<◌, eqb, get_or}
use native.Mathlib.Omega.{arith}
use Rattle.std.proofs.lemmas.Nat.{xor_lt}
use Rattle.std.proofs.Common.{eqb-true}
use Rattle.lists.specs.Lists.{every, upto}
use Rattle.lists.specs.laws.Tests.{and_both}
use Rattle.lists.specs.laws.Every.{every_upto_at}
use Rattle.house.specs.House.{house_parity, house_next}

-- the entries one by one, so that a use of the rule finds them in the code's own array
abbrev pub Eight : Type 0
Eight = ℕ × ℕ × ℕ × ℕ × ℕ × ℕ × ℕ × ℕ

abbrev pub entry : Eight → ℕ → ℕ
entry e i = get_or (e.0 ∷ e.1 ∷ e.2 ∷ e.3 ∷ e.4 ∷ e.5 ∷ e.6 ∷ e.7 ∷ []) i 0

parity_below : (s x : ℕ) → x < 2 → house_parity s x < 2
unfolding house_parity
parity_below s x h = xor_lt 1 x (s % 2) h (omega arith)

module _ (next parities : Eight) where
  -- at i stands the branch of state i / 2 and input i % 2
  abbrev is_branch : ℕ → Bool
  is_branch i = eqb (entry next i) (house_next (i / 2) (i % 2)) && eqb (entry parities i) (house_parity (i / 2) (i % 2))

  -- the test
  unfoldable pub are_branches : Bool
  are_branches = every is_branch (upto 8)

  module _ (test : are_branches ≡ true) {s x : ℕ} (p : s < 4) (q : x < 2) where
    abbrev at : ℕ
    at = 2 * s + x

    both_at : (eqb (entry next at) (house_next s x) ≡ true) × (eqb (entry parities at) (house_parity s x) ≡ true)
    unfolding are_branches
    both_at =
        let state : at / 2 ≡ s = omega arith in
        let input : at % 2 ≡ x = omega arith in
        and_both _ _ (rw (state, input) at (every_upto_at is_branch 8 test at (omega arith)))

    parity_at_lem : entry parities at ≡ house_parity s x
    parity_at_lem = eqb-true _ _ both_at.1

    -- the rule
    pub branch_at : (entry parities at ≡ house_parity s x) × (entry parities at < 2) × (entry next at ≡ house_next s x)
    branch_at = (parity_at_lem, rw parity_at_lem (parity_below s x q), eqb-true _ _ both_at.0)
