-- How large metrics get. Where every a-priori value is within a and every channel value within c, the metric of one section is within
-- a + outputs·c; where every section's is within e, the metrics of both recursions, and of whole paths, are within e times their sections.
-- Within the limits of a pass, nothing exceeds 50,311,168.
-- Assumes nothing.
use Rattle.std.specs.Prelude.{◌≡◌, Bool, true, false, cond, List, [], ◌∷◌, eqb, ℤ, pos, length, get_or}
use Rattle.std.proofs.Common.{ap, ◌∙◌, add-mul, arith}
use Rattle.std.proofs.Math.Option.{Option, none, some}
use Prim.Native.Nat.{ℕ, zero, suc, ◌+◌, ◌*◌, ◌-◌, ◌<◌, ◌≤◌}
use Rattle.std.proofs.Math.Nat.{suc-mul}
use Rattle.std.proofs.Math.Decide.{dec_lt}
use Rattle.std.proofs.Math.ListN.{get_or-eq_default}
use Rattle.integers.specs.laws.Bounds.{Within}
use Rattle.integers.specs.Integers.{inside}
use Rattle.integers.specs.laws.Laws.{within_zero, within_more, within_sum, within_max, inside_is}
use Rattle.lists.specs.Lists.{every, upto}
use Rattle.lists.specs.laws.Every.{every_at}
use Rattle.trellis.specs.declared.End.{End}
use Rattle.trellis.specs.Table.{Table, next_state, word, output}
use Rattle.trellis.specs.Path.{Values, apriori_at, channel_at, word_metric, branch_metric, admits}
use Rattle.trellis.specs.Outcome.{larger}
use Rattle.trellis.specs.Limits.{channel_limit, apriori_limit, section_limit, channel_fits, apriori_fits}
use Rattle.trellis.proofs.laws.Signs.{signed_within}
use Rattle.trellis.specs.laws.MaxPlus.{plus}
use Rattle.trellis.specs.laws.Over.{most, over}
use Rattle.trellis.specs.laws.Sweeps.{Row, boundary, ending, arrival, forward_step, forward, departure, backward_step, backward, through, meet}
use Rattle.trellis.specs.laws.Sizes.{Small, absent, present}

-- ---- one section

-- the values of a pass are within a and c
pub record Bounded (t : Table) (v : Values) (a c : ℕ) : Type 0 where
  pub apriori : (k : ℕ) → Within a (apriori_at v k)
  pub channel : (k l : ℕ) → Within c (channel_at t v k l)

-- the part of a word's first l outputs, where their values are within c
pub word_within : {y : ℕ → ℤ} {c : ℕ} (w l : ℕ) → ((j : ℕ) → j < l → Within c (y j)) → Within (l * c) (word_metric y w l)
unfolding word_metric
word_within {c} w zero h = within_zero (0 * c)
word_within {c} w (suc l) h =
    rw (suc-mul l c) (within_sum (word_within w l (λ j k. h j (omega arith))) (signed_within (output w l) (h l (omega arith))))

pub branch_within : {t : Table} {v : Values} {a c : ℕ} → Bounded t v a c → (k s b : ℕ) → Within (a + t.outputs * c) (branch_metric t v k s b)
unfolding branch_metric
branch_within {t} bounded k s b =
    within_sum (signed_within b (bounded.apriori k)) (word_within (word t s b) t.outputs (λ l h. bounded.channel k l))

-- ---- metrics that may not be there

pub small_known : {m : ℕ} {z : ℤ} → Small m (some z) → Within m z
small_known (present h) = h

pub small_more : {m n : ℕ} {x : Option ℤ} → m ≤ n → Small m x → Small n x
small_more h absent = absent
small_more h (present w) = present (within_more h w)

pub small_larger : {m : ℕ} {x y : Option ℤ} → Small m x → Small m y → Small m (larger x y)
unfolding larger
small_larger absent k = k
small_larger (present h) absent = present h
small_larger (present h) (present k) = present (within_max h k)

pub small_plus : {m n : ℕ} {x y : Option ℤ} → Small m x → Small n y → Small (m + n) (plus x y)
unfolding plus
small_plus absent k = absent
small_plus (present h) absent = absent
small_plus (present h) (present k) = present (within_sum h k)

small_test : {m : ℕ} {x : Option ℤ} (c : Bool) → Small m x → Small m (cond c x none)
small_test true h = h
small_test false h = absent

small_most : {A : Type 0} {m : ℕ} (f : A → Option ℤ) → ((x : A) → Small m (f x)) → (xs : List A) → Small m (most f xs)
unfolding most
small_most f h [] = absent
small_most f h (x ∷ xs) = small_larger (h x) (small_most f h xs)

pub small_over : {m : ℕ} (n : ℕ) (f : ℕ → Option ℤ) → ((s : ℕ) → Small m (f s)) → Small m (over n f)
unfolding over
small_over n f h = small_most f h (upto n)

pub small_boundary : (a s : ℕ) → Small 0 (boundary a s)
unfolding boundary
small_boundary a s = small_test (eqb s a) (present (within_zero 0))

pub small_ending : (end : End) (a r : ℕ) → Small 0 (ending end a r)
unfolding ending
small_ending end a r = small_test (admits end a r) (present (within_zero 0))

-- ---- the recursions

module _ (t : Table) (v : Values) (e : ℕ) (branch : (k s b : ℕ) → Within e (branch_metric t v k s b)) where
  module _ (first : Row) (small-first : (s : ℕ) → Small 0 (first s)) where
    pub small_forward : (k s : ℕ) → Small (k * e) (forward t v first k s)
    unfolding forward forward_step arrival
    small_forward zero s = small_more (omega arith) (small-first s)
    small_forward (suc k) r =
        rw (suc-mul k e) (small_over t.states _ (λ s. small_larger (arrived s 0 (small_forward k s)) (arrived s 1 (small_forward k s))))
      where
        arrived : (s b : ℕ) → Small (k * e) (forward t v first k s) → Small (k * e + e) (arrival t v k (forward t v first k) r s b)
        arrived s b h = small_test (eqb r (next_state t s b)) (small_plus h (present (branch k s b)))

  small_departure : (m k s b : ℕ) (row : Row) → ((s : ℕ) → Small (m * e) (row s)) → Small (suc m * e) (departure t v k row s b)
  unfolding departure
  small_departure m k s b row h = small_more (omega (arith, suc-mul m e)) (small_plus (present (branch k s b)) (h (next_state t s b)))

  module _ (last : Row) (small-last : (s : ℕ) → Small 0 (last s)) where
    pub small_backward : (k m s : ℕ) → Small (m * e) (backward t v last k m s)
    unfolding backward backward_step
    small_backward k zero s = small_more (omega arith) (small-last s)
    small_backward k (suc m) s =
        let row = small_backward (suc k) m in
        small_larger (small_departure m k s 0 _ row) (small_departure m k s 1 _ row)

  -- the sums where they meet
  module _ (first last : Row) (small-first : (s : ℕ) → Small 0 (first s)) (small-last : (s : ℕ) → Small 0 (last s)) (n k b : ℕ) (here : k < n) where
    pub small_through : (s : ℕ) → Small (n * e) (through t v k (forward t v first k) (backward t v last (suc k) (n - suc k)) b s)
    unfolding through
    small_through s =
        rw whole (small_plus (small_forward first small-first k s) (small_departure rest k s b _ (small_backward last small-last (suc k) rest)))
      where
        rest : ℕ
        rest = n - suc k

        whole : n * e ≡ k * e + suc rest * e
        whole = let n-is : n ≡ k + suc rest = omega arith in ap (λ i. i * e) n-is ∙ add-mul k (suc rest) e

    pub small_meet : Small (n * e) (meet t v first last n k b)
    unfolding meet
    small_meet = small_over t.states _ small_through

-- ---- in numbers

-- one section, and 4,096 of them
abbrev pub branch_limit : ℕ
branch_limit = 12283

abbrev pub metric_limit : ℕ
metric_limit = 50311168

-- a value that is not there reads as 0
every_inside : (m : ℕ) (xs : List ℤ) → every (inside m) xs ≡ true → (i : ℕ) → Within m (get_or xs i (pos 0))
every_inside m xs e i = elim (dec_lt i (length xs)) [
  | yes h ↦ (inside_is m _).0 (every_at (inside m) (pos 0) xs e i h)
  | no h ↦ rw (get_or-eq_default xs (pos 0) {n = i} (omega arith)) (within_zero m)
]

-- what the tests behind refusal 6 tell
pub limits_bound :
    (t : Table) (v : Values) → channel_fits v.channel ≡ true → apriori_fits v.apriori ≡ true → Bounded t v apriori_limit channel_limit
unfolding channel_fits apriori_fits channel_at apriori_at
limits_bound t v e f = record {
  apriori = every_inside apriori_limit v.apriori f;
  channel = λ k l. every_inside channel_limit v.channel e (t.outputs * k + l);
}

pub branch_limit_lem :
    {t : Table} {v : Values} → Bounded t v apriori_limit channel_limit → t.outputs ≤ 4 → (k s b : ℕ) → Within branch_limit (branch_metric t v k s b)
branch_limit_lem bounded h k s b = within_more (omega arith) (branch_within bounded k s b)

pub metric_limit_lem : {n : ℕ} {x : Option ℤ} → n ≤ section_limit → Small (n * branch_limit) x → Small metric_limit x
metric_limit_lem h k = small_more (omega arith) k
