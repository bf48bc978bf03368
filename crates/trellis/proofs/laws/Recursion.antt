-- The recursion theorem: the best metric of a class is the greatest, over the states, of forward metric, branch metric and backward metric.
-- It is proved for any row before the first section and any row after the last. By its end, a pass has such rows for each state that its paths may
-- start in, and the best metric is the greatest over these.
-- Assumes nothing.
use Rattle.std.specs.Prelude.{◌≡◌, ◌↔◌, Bool, true, false, cond, pos, get_or}
use Rattle.std.proofs.Math.Path.{refl, sym, ap, ap₂, fun_ext}
use Rattle.std.proofs.Common.{◌∙◌, arith, ne_eqb}
use Rattle.std.proofs.Math.Logic.Iff
use mathlib.Core.List.{List, ◌∷◌, map}
use Rattle.std.proofs.Math.Option.{Option, none, some}
use Prim.Native.Nat.{ℕ, zero, suc, ◌-◌, ◌<◌, ◌≤◌}
use Rattle.std.proofs.Math.Nat.{sub-zero, sub_self}
use Rattle.std.proofs.Math.Dec.{eqb}
use Rattle.std.proofs.Math.IntN.{ℤ}
use Rattle.lists.specs.Lists.{keep, upto}
use Rattle.lists.specs.laws.Keep.{keep_append, keep_map, keep_never, keep_always, is_empty_exactly}
use Rattle.trellis.specs.declared.End.{End}
use Rattle.trellis.specs.declared.End.TheVariants.{Zero, Open, Ring}
use Rattle.trellis.specs.Table.{Table, next_state}
use Rattle.trellis.specs.Path.{Values, TrellisPath, branch_metric, metric_from, metric, finish, all_bits, admits, all_paths, paths, class}
use Rattle.trellis.specs.Outcome.{larger, greatest, best, outcome_of, outcome, pathless}
use Rattle.trellis.specs.laws.MaxPlus.{larger_none, none_larger}
use Rattle.trellis.specs.laws.MaxPlus.{plus, plus_none, plus_comm, plus_assoc, zero_plus, plus_larger, larger_plus, cond_plus}
use Rattle.trellis.proofs.laws.Greatest.{greatest_map_is_none}
use Rattle.trellis.specs.laws.Over.{most, most_append, most_map, most_keep, most_plus, plus_most, most_larger, most_swap, greatest_map}
use Rattle.trellis.specs.laws.Over.{most_none, most_keep_none, most_joined, over, over_ext, over_at, over_first}
use Rattle.trellis.specs.laws.Sweeps.{Closed, Row, boundary, ending, starts, arrival, forward_step, forward, departure, backward_step, backward, through, meet}
use Rattle.trellis.specs.laws.Sweeps.{reach, reach_from, meet_from, meet_upto}
use Rattle.trellis.specs.laws.Sweeps.{backward_end, backward_step_lem}

module _ (t : Table) (v : Values) where
  -- ---- what the backward rows are

  -- the metric of the bits p from state s before section k on, and that of the state where they end
  unfoldable pub onward : Row → ℕ → ℕ → List ℕ → Option ℤ
  onward last k s p = plus (some (metric_from t v k s p)) (last (finish t s p))

  -- the greatest of these over the lists of m bits that pass a test
  unfoldable pub among : Row → (List ℕ → Bool) → ℕ → ℕ → Row
  among last test k m s = most (onward last k s) (keep test (all_bits m))

  module _ (last : Row) where
    onward_cons : (k s b : ℕ) (p : List ℕ) → onward last k s (b ∷ p) ≡ plus (some (branch_metric t v k s b)) (onward last (suc k) (next_state t s b) p)
    unfolding onward metric_from finish plus
    onward_cons k s b p =
        plus_assoc (some (branch_metric t v k s b)) (some (metric_from t v (suc k) (next_state t s b) p)) (last (finish t (next_state t s b) p))

    -- the lists of bits fall in two by their first bit
    among_side :
        (test : List ℕ → Bool) (k m s b : ℕ)
        → most (onward last k s) (keep test (map (λ p. b ∷ p) (all_bits m))) ≡ departure t v k (among last (λ p. test (b ∷ p)) (suc k) m) s b
    unfolding among departure
    among_side test k m s b = simp (keep_map, most_map, onward_cons, plus_most)

    among_step :
        (test : List ℕ → Bool) (k m s : ℕ)
        → among last test k (suc m) s
        ≡ larger (departure t v k (among last (λ p. test (0 ∷ p)) (suc k) m) s 0) (departure t v k (among last (λ p. test (1 ∷ p)) (suc k) m) s 1)
    unfolding among all_bits
    among_step test k m s = rw (keep_append, most_append) (ap₂ larger (among_side test k m s 0) (among_side test k m s 1))

    among_never : (k m s : ℕ) → among last (λ p. false) k m s ≡ none
    unfolding among most
    among_never k m s = rw (keep_never (λ p. false) (λ p. refl) (all_bits m))

    -- of all lists of bits: the backward row
    among_all : (k m s : ℕ) → among last (λ p. true) k m s ≡ backward t v last k m s
    unfolding backward backward_step among keep all_bits most onward metric_from finish
    among_all k zero s = larger_none _ ∙ zero_plus (last s)
    among_all k (suc m) s = among_step (λ p. true) k m s ∙ ap (λ row. backward_step t v k row s) (fun_ext (among_all (suc k) m))

    -- of those with bit b at position j
    unfoldable with_bit : ℕ → ℕ → ℕ → ℕ → Row
    with_bit b j k m = among last (λ p. eqb (get_or p j 0) b) k m

    with_bit_later : (b j k m s : ℕ) → with_bit b (suc j) k (suc m) s ≡ backward_step t v k (with_bit b j (suc k) m) s
    unfolding with_bit backward_step
    with_bit_later b j k m s = among_step (λ p. eqb (get_or p (suc j) 0) b) k m s

    with_bit_now : (b k m s : ℕ) → b < 2 → with_bit b 0 k (suc m) s ≡ departure t v k (backward t v last (suc k) m) s b
    unfolding with_bit departure
    with_bit_now zero k m s h = among_step (λ p. eqb (get_or p 0 0) 0) k m s ∙ simp (among_never, plus_none, larger_none, among_all)
    with_bit_now (suc zero) k m s h = among_step (λ p. eqb (get_or p 0 0) 1) k m s ∙ simp (among_never, plus_none, none_larger, among_all)
    with_bit_now (suc (suc b)) k m s h = absurd (omega arith)

  -- ---- what the forward rows do: a maximum over the states may be taken before a section or after it

  module _ (w : Closed t) (k : ℕ) (before after : Row) where
    -- a branch counts in the one state that it leads to
    over_arrival :
        (s b : ℕ) → s < t.states → b < 2 → over t.states (λ r. plus (arrival t v k before r s b) (after r)) ≡ through t v k before after b s
    unfolding arrival through departure
    over_arrival s b l h =
        over_ext t.states (λ r i. cond_plus (eqb r (next_state t s b)) x (after r))
        ∙ over_at t.states (next_state t s b) (λ r. plus x (after r)) (w.stays s b l h)
        ∙ plus_assoc (before s) (some (branch_metric t v k s b)) (after (next_state t s b))
      where
        x : Option ℤ
        x = plus (before s) (some (branch_metric t v k s b))

    over_step :
        over t.states (λ r. plus (forward_step t v k before r) (after r)) ≡ over t.states (λ s. plus (before s) (backward_step t v k after s))
    unfolding forward_step backward_step over through
    over_step =
        ap (λ f. most f states) (fun_ext (λ r. most_plus (arrivals r) (after r) states))
        ∙ most_swap (λ r s. plus (arrivals r s) (after r)) states states
        ∙ over_ext
        t.states
        (λ s l. simp (larger_plus, most_larger, plus_larger) (ap₂ larger (over_arrival s 0 l (omega arith)) (over_arrival s 1 l (omega arith))))
      where
        states : List ℕ
        states = upto t.states

        arrivals : ℕ → ℕ → Option ℤ
        arrivals r s = larger (arrival t v k before r s 0) (arrival t v k before r s 1)

  module _ (w : Closed t) (first last : Row) where
    -- so the forward rows may be carried up to any section, against rows that go backward
    carried :
        (row : ℕ → Row) (k : ℕ) → ((i s : ℕ) → i < k → row i s ≡ backward_step t v i (row (suc i)) s)
        → over t.states (λ s. plus (first s) (row 0 s)) ≡ over t.states (λ s. plus (forward t v first k s) (row k s))
    unfolding forward
    carried row zero h = refl
    carried row (suc k) h =
        carried row k (λ i s l. h i s (omega arith))
        ∙ over_ext t.states (λ s l. ap (plus (forward t v first k s)) (h k s (omega arith)))
        ∙ sym (over_step w k (forward t v first k) (row (suc k)))

    -- all lists of n bits, from every state
    pub all_by_recursion :
        (n : ℕ)
        → over t.states (λ s. plus (first s) (among last (λ p. true) 0 n s)) ≡ reach t v first last n
    unfolding reach
    all_by_recursion n =
        over_ext t.states (λ s l. ap (plus (first s)) (among_all last 0 n s ∙ rw (sub-zero n)))
        ∙ carried (λ i. backward t v last i (n - i)) n (λ i s l. ap (λ row. row s) (backward_step_lem t v last n i l))
        ∙ rw (backward_end t v last n)

    -- those with bit b at position k, from every state
    pub bit_by_recursion :
        (n k b : ℕ) → k < n → b < 2
        → over t.states (λ s. plus (first s) (among last (λ p. eqb (get_or p k 0) b) 0 n s)) ≡ meet t v first last n k b
    unfolding with_bit through meet
    bit_by_recursion n k b h l =
        (rw (sub-zero k, sub-zero n) at (carried row k step)) ∙ over_ext t.states (λ s i. ap (plus (forward t v first k s)) (there s))
      where
        row : ℕ → Row
        row i = with_bit last b (k - i) i (n - i)

        step : (i s : ℕ) → i < k → row i s ≡ backward_step t v i (row (suc i)) s
        step i s j =
            let e : k - i ≡ suc (k - suc i) = omega arith in
            let f : n - i ≡ suc (n - suc i) = omega arith in
            rw (e, f) (with_bit_later last b (k - suc i) i (n - suc i) s)

        there : (s : ℕ) → row k s ≡ departure t v k (backward t v last (suc k) (n - suc k)) s b
        there s =
            let e : n - k ≡ suc (n - suc k) = omega arith in
            rw (sub_self k, e) (with_bit_now last b k (n - suc k) s l)

-- ---- the paths of an end

-- a sum with 0 that is there only if a test passes
plus_test : (x : Option ℤ) (c : Bool) → plus x (cond c (some (pos 0)) none) ≡ cond c x none
plus_test x true = plus_comm x (some (pos 0)) ∙ zero_plus x
plus_test x false = plus_none x

boundary_plus : (a s : ℕ) (x : Option ℤ) → plus (boundary a s) x ≡ cond (eqb s a) x none
unfolding boundary
boundary_plus a s x = plus_comm (boundary a s) x ∙ plus_test x (eqb s a)

plus_ending : (x : Option ℤ) (end : End) (a r : ℕ) → plus x (ending end a r) ≡ cond (admits end a r) x none
unfolding ending
plus_ending x end a r = plus_test x (admits end a r)

-- no path starts past the states that the end has for it
admits_none : (states : ℕ) (end : End) (a r : ℕ) → starts states end ≤ a → a < states → admits end a r ≡ false
unfolding starts admits
admits_none states Zero a r h l = rw (ne_eqb a 0 (λ e. omega arith))
admits_none states Open a r h l = ne_eqb a 0 (λ e. omega arith)
admits_none states Ring a r h l = absurd (omega arith)

pub few_starts : (states : ℕ) (end : End) → 0 < states → starts states end ≤ states
unfolding starts
few_starts states Zero h = omega arith
few_starts states Open h = omega arith
few_starts states Ring h = omega arith

module _ (t : Table) (v : Values) (end : End) where
  -- from state a: the greatest over the lists of n bits that pass a test, where the end admits it
  unfoldable from : (List ℕ → Bool) → ℕ → Row
  from test n a = among t v (ending end a) test 0 n a

  paths_most :
      (f : TrellisPath → Option ℤ) (n : ℕ)
      → most f (paths t end n)
      ≡ over t.states (λ a. most (λ p. plus (f (record { start = a; bits = p })) (ending end a (finish t a p))) (all_bits n))
  unfolding paths all_paths
  paths_most f n = simp (most_keep, most_joined, most_map, plus_ending)

  paths_are_all : (n : ℕ) → greatest (map (metric t v) (paths t end n)) ≡ over t.states (λ a. from (λ p. true) n a)
  unfolding from among onward metric
  paths_are_all n = greatest_map (metric t v) (paths t end n) ∙ simp (most_keep, paths_most)

  class_has_bit : (n k b : ℕ) → best t v end n k b ≡ over t.states (λ a. from (λ p. eqb (get_or p k 0) b) n a)
  unfolding best class from among onward metric
  class_has_bit n k b = greatest_map (metric t v) (class t end n k b) ∙ simp (most_keep, paths_most, cond_plus)

  from_none : (test : List ℕ → Bool) (n a : ℕ) → starts t.states end ≤ a → a < t.states → from test n a ≡ none
  unfolding from among onward
  from_none test n a h l = ap (λ f. most f (keep test (all_bits n))) (fun_ext nowhere) ∙ most_none (keep test (all_bits n))
    where
      nowhere : (p : List ℕ) → onward t v (ending end a) 0 a p ≡ none
      nowhere p = plus_ending _ end a (finish t a p) ∙ rw (admits_none t.states end a (finish t a p) h l)

  -- where no list of bits is there, none that passes a test is
  from_fewer : (test : List ℕ → Bool) (n a : ℕ) → from (λ p. true) n a ≡ none → from test n a ≡ none
  unfolding from among
  from_fewer test n a e = most_keep_none (onward t v (ending end a) 0 a) test (all_bits n) (rw (keep_always (all_bits n)) at e)

  module _ (w : Closed t) (some_state : 0 < t.states) where
    from_starts : (test : List ℕ → Bool) (n : ℕ) → over t.states (from test n) ≡ over (starts t.states end) (from test n)
    from_starts test n = over_first (starts t.states end) t.states (from test n) (few_starts t.states end some_state) (from_none test n)

    is_state : (a : ℕ) → a < starts t.states end → a < t.states
    is_state a l = omega (arith, few_starts t.states end some_state)

    from_boundary : (row : Row) (a : ℕ) → a < t.states → over t.states (λ s. plus (boundary a s) (row s)) ≡ row a
    from_boundary row a l = over_ext t.states (λ s i. boundary_plus a s (row s)) ∙ over_at t.states a row l

    from_all : (n a : ℕ) → a < t.states → from (λ p. true) n a ≡ reach_from t v end n a
    unfolding from reach_from
    from_all n a l =
        sym (from_boundary (among t v (ending end a) (λ p. true) 0 n) a l) ∙ all_by_recursion t v w (boundary a) (ending end a) n

    from_bit : (n k b a : ℕ) → k < n → b < 2 → a < t.states → from (λ p. eqb (get_or p k 0) b) n a ≡ meet_from t v end n k b a
    unfolding from meet_from
    from_bit n k b a h bit l =
        sym (from_boundary (among t v (ending end a) (λ p. eqb (get_or p k 0) b) 0 n) a l)
        ∙ bit_by_recursion t v w (boundary a) (ending end a) n k b h bit

    -- the best metric of a class: the greatest, over the states to start in, of what the two sweeps give where they meet
    pub best_by_recursion : (n k b : ℕ) → k < n → b < 2 → best t v end n k b ≡ meet_upto t v end n k b (starts t.states end)
    unfolding meet_upto
    best_by_recursion n k b h bit =
        class_has_bit n k b
        ∙ from_starts (λ p. eqb (get_or p k 0) b) n
        ∙ over_ext (starts t.states end) (λ a l. from_bit n k b a h bit (is_state a l))

    pub outcome_by_recursion :
        (n k : ℕ) → k < n → outcome t v end n k ≡ outcome_of (meet_upto t v end n k 0 (starts t.states end)) (meet_upto t v end n k 1 (starts t.states end))
    unfolding outcome
    outcome_by_recursion n k h = ap₂ outcome_of (best_by_recursion n k 0 h (omega arith)) (best_by_recursion n k 1 h (omega arith))

    -- the forward rows alone tell whether there is a path
    pub pathless_by_recursion : (n : ℕ) → (pathless t end n ≡ true) ↔ (over (starts t.states end) (reach_from t v end n) ≡ none)
    unfolding pathless
    pathless_by_recursion n =
        rw (← all) (Iff.trans (is_empty_exactly (paths t end n)) (Iff.symm (greatest_map_is_none (metric t v) (paths t end n))))
      where
        all : greatest (map (metric t v) (paths t end n)) ≡ over (starts t.states end) (reach_from t v end n)
        all =
            paths_are_all n
            ∙ from_starts (λ p. true) n
            ∙ over_ext (starts t.states end) (λ a l. from_all n a (is_state a l))

    -- a start that leads nowhere gives nothing where the sweeps meet
    pub unreached_meet : (n k b a : ℕ) → k < n → b < 2 → a < t.states → reach_from t v end n a ≡ none → meet_from t v end n k b a ≡ none
    unreached_meet n k b a h bit l e = sym (from_bit n k b a h bit l) ∙ from_fewer (λ p. eqb (get_or p k 0) b) n a (from_all n a l ∙ e)
