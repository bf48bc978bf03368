-- Where the bad value sits (document 02, request 2), the statement: when 6 and 16 are given, and which value of the lists lent to a call the index beside
-- them is that of.
-- Assumes nothing.
use Rattle.std.specs.Prelude.{◌≡◌, ◌↔◌, true, List, [], ◌∷◌, map, ℕ, ℤ, Err}
use Rattle.refusal.specs.declared.Refusal.TheVariants.{Value, Apriori}
use Rattle.refusal.specs.Refusals.{Reply, told, Check}
use Rattle.refusal.specs.Replied.{all_hold}
use Rattle.trellis.specs.Limits.{channel_limit, apriori_limit, channel_fits, IsFirstOutside}

-- 6 is given exactly where the checks before it, of 2, 3, 4 and 5, hold and a channel value is outside its limits, and the index is that of the first such
-- value in its list. 16 stands after 6, and is the same of the a-priori values
pub record IsPlaced (before : List Check) (channel apriori : List ℤ) (r : Reply) : Type 0 where
  pub numbered : map (λ c. (told c.refusal).number) before ≡ 2 ∷ 3 ∷ 4 ∷ 5 ∷ []
  pub value : (i : ℕ) → (r ≡ Err (Value i)) ↔ ((all_hold before ≡ true) × IsFirstOutside channel_limit channel i)
  pub apriori_value : (i : ℕ) →
      (r ≡ Err (Apriori i)) ↔ ((all_hold before ≡ true) × ((channel_fits channel ≡ true) × IsFirstOutside apriori_limit apriori i))
