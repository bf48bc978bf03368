-- Values that agree with a path: each has the sign of its bit there, or is zero. Then no path has a greater metric, and a path with another bit
-- in one section is behind by twice the size of what the pass was told of that bit.
-- Assumes nothing.
use Rattle.std.specs.Prelude.{◌≡◌, refl, ◌↔◌, ◌≢◌, Bool, cond, ℤ, neg_ℤ, nat_abs, ◌-ℤ◌, ◌*ℤ◌, ◌≤ℤ◌, get_or, length, take}
use Rattle.std.proofs.Common.{sym, ◌∙◌, suc-ne-zero, add-zero, arith}
use Rattle.std.proofs.Math.Path.{ap₂}
use Rattle.std.proofs.Math.Bool.{true, false}
use mathlib.Core.List.{List, [], ◌∷◌}
use Prim.Native.Nat.{ℕ, zero, suc, ◌+◌, ◌<◌, ◌≤◌}
use Rattle.std.proofs.Math.Nat.{suc_inj, add-suc, suc-add}
use Rattle.std.proofs.Math.IntN.{pos, ◌+ℤ◌}
use Rattle.std.specs.Int.Signed.{≤ℤ_refl}
use Rattle.integers.specs.laws.Linear.{ints}
use Rattle.integers.specs.laws.Laws.{+ℤ_mono}
use Rattle.trellis.specs.Table.{Table, next_state, word, output, systematic, shaped, branched}
use Rattle.trellis.specs.Path.{Values, apriori_at, channel_at, signed, word_metric, branch_metric, metric_from, finish}
use Rattle.trellis.specs.Outcome.{systematic_at, intrinsic}
use Rattle.trellis.specs.laws.Branches.{shaped_is, next_below, systematic_at_lem}
use Rattle.trellis.proofs.laws.Signs.{signed_sum, signed_zero, signed_size, signed_most, signed_other}

-- the values of section k agree with the branch of state s and bit b
pub record Agrees (t : Table) (v : Values) (k s b : ℕ) : Type 0 where
  pub apriori : pos 0 ≤ℤ signed b (apriori_at v k)
  pub channel : (l : ℕ) → l < t.outputs → pos 0 ≤ℤ signed (output (word t s b) l) (channel_at t v k l)

-- the values from section k and state s on agree with the input bits p
unfoldable pub AgreesFrom : Table → Values → ℕ → ℕ → List ℕ → Type 0
AgreesFrom t v k s [] = Unit {0}
AgreesFrom t v k s (b ∷ p) = Agrees t v k s b × AgreesFrom t v (suc k) (next_state t s b) p

-- ---- being ahead

-- b is ahead of a by twice x, or more
pub record Ahead (x a b : ℤ) : Type 0 where
  pub ahead : (a +ℤ (pos 2 *ℤ x)) ≤ℤ b

ahead_is : (x a b : ℤ) → Ahead x a b ↔ ((a +ℤ (pos 2 *ℤ x)) ≤ℤ b)
ahead_is x a b = ((λ h. h.ahead), (λ h. record { ahead = h }))

-- not behind
ahead_none : {a b : ℤ} → a ≤ℤ b → Ahead (pos 0) a b
ahead_none {a} {b} = simp (ahead_is, ints) (omega arith)

-- a value counted the other way
ahead_turned : {x y : ℤ} → y ≡ neg_ℤ x → Ahead x y x
ahead_turned {x} {y} = simp (ahead_is, ints) (omega arith)

-- so half their difference is x or more
pub ahead_half : {x y a b : ℤ} → Ahead x a b → pos 2 *ℤ y ≡ b -ℤ a → x ≤ℤ y
ahead_half {x} {y} {a} {b} = simp (ahead_is, ints) (omega arith)

-- in one summand, or in both
module _ {a b c d x : ℤ} where
  ahead_first : Ahead x a b → c ≤ℤ d → Ahead x (a +ℤ c) (b +ℤ d)
  ahead_first = simp (ahead_is, ints) (omega arith)

  ahead_second : a ≤ℤ b → Ahead x c d → Ahead x (a +ℤ c) (b +ℤ d)
  ahead_second = simp (ahead_is, ints) (omega arith)

  ahead_both : {y : ℤ} → Ahead x a b → Ahead y c d → Ahead (x +ℤ y) (a +ℤ c) (b +ℤ d)
  ahead_both {y} = simp (ahead_is, ints) (omega arith)

module _ (t : Table) (v : Values) where
  -- section by section, each at its index
  pub agrees_from : (k s : ℕ) (p : List ℕ) → ((i : ℕ) → i < length p → Agrees t v (k + i) (finish t s (take i p)) (get_or p i 0)) → AgreesFrom t v k s p
  unfolding AgreesFrom finish
  agrees_from k s [] h = tt
  agrees_from k s (b ∷ p) h = (
    rw (add-zero k) at (h 0 (omega arith)),
    agrees_from (suc k) (next_state t s b) p (λ i l. rw (suc-add k i, ← add-suc k i) (h (suc i) (omega arith))),
  )

  -- ---- no branch and no path is ahead

  words_most : (k u w l : ℕ) → ((i : ℕ) → i < l → pos 0 ≤ℤ signed (output w i) (channel_at t v k i)) → word_metric (channel_at t v k) u l ≤ℤ word_metric (channel_at t v k) w l
  unfolding word_metric
  words_most k u w zero h = ≤ℤ_refl (pos 0)
  words_most k u w (suc l) h =
      +ℤ_mono (words_most k u w l (λ i q. h i (omega arith))) (signed_most (output w l) (output u l) (channel_at t v k l) (h l (omega arith)))

  branch_most : (k s r b c : ℕ) → Agrees t v k s b → branch_metric t v k r c ≤ℤ branch_metric t v k s b
  unfolding branch_metric
  branch_most k s r b c h =
      +ℤ_mono (signed_most b c (apriori_at v k) h.apriori) (words_most k (word t r c) (word t s b) t.outputs h.channel)

  pub from_most : (k s r : ℕ) (p q : List ℕ) → length p ≡ length q → AgreesFrom t v k s p → metric_from t v k r q ≤ℤ metric_from t v k s p
  unfolding metric_from AgreesFrom
  from_most k s r [] [] e h = ≤ℤ_refl (pos 0)
  from_most k s r [] (c ∷ q) e h = absurd (suc-ne-zero (length q) (sym e))
  from_most k s r (b ∷ p) [] e h = absurd (suc-ne-zero (length p) e)
  from_most k s r (b ∷ p) (c ∷ q) e h =
      +ℤ_mono (branch_most k s r b c h.0) (from_most (suc k) (next_state t s b) (next_state t r c) p q (suc_inj e) h.1)

  -- ---- another bit is behind

  -- the branch of state s and bit b, which the values agree with, against a branch of another bit
  module _ (k s b r c : ℕ) (agrees : Agrees t v k s b) (other : (x : ℤ) → signed c x ≡ neg_ℤ (signed b x)) where
    -- by a value that both count
    value_less : (x : ℤ) → Ahead (signed b x) (signed c x) (signed b x)
    value_less x = ahead_turned (other x)

    -- by the first output, where that is the input bit
    words_less : output (word t s b) 0 ≡ b → output (word t r c) 0 ≡ c → (l : ℕ) → 0 < l → l ≤ t.outputs →
        Ahead (signed b (channel_at t v k 0)) (word_metric (channel_at t v k) (word t r c) l) (word_metric (channel_at t v k) (word t s b) l)
    unfolding word_metric
    words_less d e zero h f = absurd (omega arith)
    words_less d e (suc zero) h f = rw (d, e) (ahead_second (≤ℤ_refl (pos 0)) (value_less (channel_at t v k 0)))
    words_less d e (suc (suc l)) h f =
        ahead_first (words_less d e (suc l) (omega arith) (omega arith)) (signed_most _ (output (word t r c) (suc l)) _ (agrees.channel (suc l) f))

    -- by all that the pass was told of the bit
    branch_less : (systematic t ≡ true → (0 < t.outputs) × (output (word t s b) 0 ≡ b) × (output (word t r c) 0 ≡ c)) →
        Ahead (signed b (intrinsic t v k)) (branch_metric t v k r c) (branch_metric t v k s b)
    unfolding branch_metric intrinsic systematic_at
    branch_less first = rw (signed_sum b _ _) (ahead_both (value_less (apriori_at v k)) (go (systematic t) refl))
      where
        go : (y : Bool) → systematic t ≡ y → Ahead (signed b (cond y (channel_at t v k 0) (pos 0)))
            (word_metric (channel_at t v k) (word t r c) t.outputs) (word_metric (channel_at t v k) (word t s b) t.outputs)
        go true e = words_less (first e).1 (first e).2 t.outputs (first e).0 (omega arith)
        go false e = rw (signed_zero b) (ahead_none (words_most k _ _ t.outputs agrees.channel))

  -- ---- along a path

  module _ (shape : shaped t ≡ true) (branches : branched t ≡ true) where
    -- what the pass was told of a bit has its sign, so that the sizes of the two values add up
    told_size : (k s b : ℕ) → s < t.states → b < 2 → Agrees t v k s b →
        signed b (intrinsic t v k) ≡ pos (nat_abs (apriori_at v k) + nat_abs (systematic_at t v k))
    unfolding intrinsic systematic_at
    told_size k s b hs hb h = signed_sum b _ _ ∙ ap₂ ◌+ℤ◌ (signed_size b _ h.apriori) (signed_size b _ (go (systematic t) refl))
      where
        go : (y : Bool) → systematic t ≡ y → pos 0 ≤ℤ signed b (cond y (channel_at t v k 0) (pos 0))
        go true e = rw (systematic_at_lem t s b hs hb e) at (h.channel 0 (shaped_is t shape).some_output)
        go false e = rw (signed_zero b) (≤ℤ_refl (pos 0))

    -- the same at any index of a path
    pub from_told : (k s : ℕ) (p : List ℕ) → s < t.states → ((i : ℕ) → get_or p i 0 < 2) → AgreesFrom t v k s p → (i : ℕ) → i < length p →
        signed (get_or p i 0) (intrinsic t v (k + i)) ≡ pos (nat_abs (apriori_at v (k + i)) + nat_abs (systematic_at t v (k + i)))
    unfolding AgreesFrom
    from_told k s [] hs f h i l = absurd (omega arith)
    from_told k s (b ∷ p) hs f h zero l = rw (add-zero k) (told_size k s b hs (f 0) h.0)
    from_told k s (b ∷ p) hs f h (suc i) l =
        rw (add-suc k i, ← suc-add k i)
        (from_told (suc k) (next_state t s b) p (next_below t s b hs (f 0) shape branches) (λ j. f (suc j)) h.1 i (omega arith))

    -- a path with another bit at an index is behind by twice that
    pub from_less : (k s r : ℕ) (p q : List ℕ) → s < t.states → r < t.states → length p ≡ length q →
        ((i : ℕ) → get_or p i 0 < 2) → ((i : ℕ) → get_or q i 0 < 2) → AgreesFrom t v k s p → (i : ℕ) → i < length p → get_or p i 0 ≢ get_or q i 0 →
        Ahead (signed (get_or p i 0) (intrinsic t v (k + i))) (metric_from t v k r q) (metric_from t v k s p)
    unfolding metric_from AgreesFrom
    from_less k s r [] q hs hr e f g h i l n = absurd (omega arith)
    from_less k s r (b ∷ p) [] hs hr e f g h i l n = absurd (suc-ne-zero (length p) e)
    from_less k s r (b ∷ p) (c ∷ q) hs hr e f g h zero l n =
        rw (add-zero k) (ahead_first
        (branch_less k s b r c h.0 (λ x. signed_other b c x (f 0) (g 0) n)
        (λ y. ((shaped_is t shape).some_output, systematic_at_lem t s b hs (f 0) y, systematic_at_lem t r c hr (g 0) y)))
        (from_most (suc k) (next_state t s b) (next_state t r c) p q (suc_inj e) h.1))
    from_less k s r (b ∷ p) (c ∷ q) hs hr e f g h (suc i) l n =
        rw (add-suc k i, ← suc-add k i) (ahead_second
        (branch_most k s r b c h.0)
        (from_less (suc k) (next_state t s b) (next_state t r c) p q
        (next_below t s b hs (f 0) shape branches) (next_below t r c hr (g 0) shape branches) (suc_inj e)
        (λ j. f (suc j)) (λ j. g (suc j)) h.1 i (omega arith) n))
