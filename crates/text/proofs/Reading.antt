-- What the functions that read a field go by, as sets of laws.
-- Assumes nothing.
use Rattle.std.specs.Prelude.{◌≡◌, List, ℕ, ◌-◌, ◌<◌, pos, ◌-ℤ◌, length, get_or, take, drop}
use Rattle.std.proofs.Common.{sym, ap, ◌∙◌, arith, length-drop, take_all}
use Rattle.std.proofs.Math.Option.{none, some, map, bind}
use Rattle.text.specs.Text.{minus}
use Rattle.text.specs.Decimal.{natural, opposite, integer}
use Rattle.text.specs.laws.Reading.{numeral_short, numeral_long, numeral_other, numeral_one, numeral_several}
use Rattle.text.specs.laws.Reading.{natural_yes, natural_no, natural_small, small_fits, small_signed, opposite_of_lem, integer_minus, integer_plain}

-- whether a field is a numeral, by its length, its digits and the first of them
pub ruleset numerals = (numeral_short, numeral_long, numeral_other, numeral_one, numeral_several)

-- a field that is a numeral, or none
pub ruleset naturals = (natural_yes, natural_no)

-- ---- a value, by the number that the field is, or that follows its minus sign

module _ (ds : List ℕ) where
  after_minus : get_or ds 0 0 ≡ minus → integer ds ≡ bind (natural (take (length ds - 1) (drop 1 ds))) opposite
  after_minus front =
      integer_minus ds front ∙ ap (λ l. bind (natural l) opposite) (sym (take_all (length ds - 1) (drop 1 ds) (omega (arith, length-drop 1 ds))))

  pub minus_none : get_or ds 0 0 ≡ minus → none ≡ natural (take (length ds - 1) (drop 1 ds)) → integer ds ≡ none
  unfolding bind
  minus_none front e = after_minus front ∙ ap (λ o. bind o opposite) (sym e)

  pub minus_zero : (n : ℕ) → get_or ds 0 0 ≡ minus → some n ≡ natural (take (length ds - 1) (drop 1 ds)) → n ≡ 0 → integer ds ≡ none
  unfolding bind opposite
  minus_zero n front e z = after_minus front ∙ ap (λ o. bind o opposite) (sym e) ∙ ap opposite z

  pub minus_some : (n : ℕ) → get_or ds 0 0 ≡ minus → some n ≡ natural (take (length ds - 1) (drop 1 ds)) → (n ≡ 0 → ⊥)
      → integer ds ≡ some (pos 0 -ℤ pos n)
  unfolding bind
  minus_some n front e d = after_minus front ∙ ap (λ o. bind o opposite) (sym e) ∙ opposite_of_lem n d

  pub plain_none : (get_or ds 0 0 ≡ minus → ⊥) → none ≡ natural ds → integer ds ≡ none
  plain_none d e = integer_plain ds d ∙ ap (map pos) (sym e)

  pub plain_some : (n : ℕ) → (get_or ds 0 0 ≡ minus → ⊥) → some n ≡ natural ds → integer ds ≡ some (pos n)
  plain_some n d e = integer_plain ds d ∙ ap (map pos) (sym e)

-- what is accepted is small
pub small : (ds : List ℕ) (n : ℕ) → some n ≡ natural ds → n < 100000
small ds n e = natural_small ds n (sym e)

pub ruleset integers = (minus_none, minus_zero, minus_some, plain_none, plain_some, small, small_fits, small_signed)
