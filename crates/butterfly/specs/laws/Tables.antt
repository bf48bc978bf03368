-- Which tables are butterflies, told from their lists alone; the signs of their wings; and the wings of each section.
-- Assumes nothing.
use Rattle.std.specs.Prelude.{◌≡◌, refl, Bool, true, false, cond, List, ◌⊎◌, ℕ, zero, suc, ◌+◌, ◌*◌, ◌/◌, ◌<◌, ◌≤◌, eqb, ℤ, pos, negsuc, neg_ℤ, ◌+ℤ◌, length, get_or}
use Rattle.std.proofs.Math.Path.{ap₂}
use Rattle.std.proofs.Common.{◌∙◌, inl, inr, add-zero, arith, eq-eqb, ne_eqb}
use Rattle.integers.specs.laws.Linear.{ints}
use Rattle.trellis.specs.Table.{Table, table_of, next_state, word, output, systematic}
use Rattle.trellis.specs.Path.{Values, apriori_at, channel_at, signed, word_metric, branch_metric}
use Rattle.butterfly.specs.laws.Wings.{Wing}
use Rattle.butterfly.specs.laws.Metrics.{IsSign, is_minus, Signs, Wings}

-- ---- the lists

-- where the bits of two states lead, by the state: to an even state and to the one after it, crosswise
pub record Crosswise (even near-zero near-one far-zero far-one : ℕ) : Type 0 where
  pub near : ((near-zero ≡ even) × (near-one ≡ even + 1)) ⊎ ((near-zero ≡ even + 1) × (near-one ≡ even))
  pub zero_across : far-zero ≡ near-one
  pub one_across : far-one ≡ near-zero

-- the words of their bits: the same for both, and opposite for a state's two bits, where output 1 is the bit
pub record Opposite (near-zero near-one far-zero far-one : ℕ) : Type 0 where
  pub near : ((near-zero ≡ 0) × (near-one ≡ 3)) ⊎ ((near-zero ≡ 2) × (near-one ≡ 1))
  pub zero_same : far-zero ≡ near-zero
  pub one_same : far-one ≡ near-one

-- states i and i + half are a wing
pub record IsWing (next words : List ℕ) (half i : ℕ) : Type 0 where
  pub leads : Crosswise (2 * i) (get_or next (2 * i) 0) (get_or next (2 * i + 1) 0) (get_or next (2 * (i + half)) 0) (get_or next (2 * (i + half) + 1) 0)
  pub has : Opposite (get_or words (2 * i) 0) (get_or words (2 * i + 1) 0) (get_or words (2 * (i + half)) 0) (get_or words (2 * (i + half) + 1) 0)

-- 4, 8 or 16 states: two, four or eight wings
pub record HasSteps (states : ℕ) : Type 0 where
  pub halves : states ≡ states / 2 + states / 2
  pub few : states / 2 ≤ 8
  pub else_eight : (states / 2 ≡ 2 → ⊥) → (states / 2 ≡ 4 → ⊥) → states / 2 ≡ 8

-- a systematic table of two outputs whose states all are in wings, as many as the steps are for
pub record IsButterfly (states outputs : ℕ) (next words : List ℕ) : Type 0 where
  pub two_outputs : outputs ≡ 2
  pub steps : HasSteps states
  pub next_long : length next ≡ 2 * states
  pub words_long : length words ≡ 2 * states
  pub is_wing : (i : ℕ) → i < states / 2 → IsWing next words (states / 2) i
  pub is_systematic : systematic (table_of states outputs next words) ≡ true

-- ---- the signs

-- whether it is bit 0 that leads from state i to 2·i
abbrev pub zero_straight : List ℕ → ℕ → Bool
zero_straight next i = eqb (get_or next (2 * i) 0) (2 * i)

-- the word of the branch from i to 2·i
abbrev pub straight_word : List ℕ → List ℕ → ℕ → ℕ
straight_word next words i = cond (zero_straight next i) (get_or words (2 * i) 0) (get_or words (2 * i + 1) 0)

-- whether a word's output 2 is 0
abbrev pub zero_parity : ℕ → Bool
zero_parity w = eqb (output w 1) 0

-- the sign of a bit, by whether it is 0
abbrev pub sign_of : Bool → ℤ
sign_of z = cond z (negsuc 0) (pos 1)

-- of the branch from i to 2·i: the sign of its input bit, and of its parity
abbrev pub input_sign : List ℕ → ℕ → ℤ
input_sign next i = sign_of (zero_straight next i)

abbrev pub parity_sign : List ℕ → List ℕ → ℕ → ℤ
parity_sign next words i = sign_of (zero_parity (straight_word next words i))

pub record AreSigns (next words : List ℕ) (half : ℕ) (signs : List ℤ) : Type 0 where
  pub input : (i : ℕ) → i < half → get_or signs i (pos 0) ≡ input_sign next i
  pub parity : (i : ℕ) → i < half → get_or signs (8 + i) (pos 0) ≡ parity_sign next words i

is_sign : {z : ℤ} (t : Bool) → z ≡ sign_of t → IsSign z
is_sign true e = inl e
is_sign false e = inr e

pub signs_are : {next words : List ℕ} {half : ℕ} {signs : List ℤ} → AreSigns next words half signs → Signs half signs
signs_are {next} {words} are = record {
  input = λ i l. is_sign (zero_straight next i) (are.input i l);
  parity = λ i l. is_sign (zero_parity (straight_word next words i)) (are.parity i l);
}

is_minus_lem : (t : Bool) → is_minus (sign_of t) ≡ t
is_minus_lem true = refl
is_minus_lem false = refl

-- ---- a section

-- what the values of a section tell of its own bit, and of its parity
abbrev pub own_at : Table → Values → ℕ → ℤ
own_at t v k = apriori_at v k +ℤ channel_at t v k 0

abbrev pub other_at : Table → Values → ℕ → ℤ
other_at t v k = channel_at t v k 1

-- the branches of a state by the bit that leads straight on, and by the other
module _ (xs : List ℕ) (s : ℕ) where
  straight_entry : (z : Bool) → get_or xs (2 * s + cond z 0 1) 0 ≡ cond z (get_or xs (2 * s) 0) (get_or xs (2 * s + 1) 0)
  straight_entry true = rw (add-zero (2 * s))
  straight_entry false = refl

  cross_entry : (z : Bool) → get_or xs (2 * s + cond z 1 0) 0 ≡ cond z (get_or xs (2 * s + 1) 0) (get_or xs (2 * s) 0)
  cross_entry true = refl
  cross_entry false = rw (add-zero (2 * s))

-- where they lead
straight_on :
    {even a b : ℕ} → ((a ≡ even) × (b ≡ even + 1)) ⊎ ((a ≡ even + 1) × (b ≡ even))
    → (cond (eqb a even) a b ≡ even) × (cond (eqb a even) b a ≡ even + 1)
straight_on {even} {a} (inl (e, f)) = rw (eq-eqb a even e) (e, f)
straight_on {even} {a} (inr (e, f)) = rw (ne_eqb a even (λ q. omega arith)) (f, e)

-- their words: output 1 is the bit, and output 2 is opposite
abbrev Read : ℕ → ℕ → ℕ → Type 0
Read w b p = (output w 0 ≡ b) × (output w 1 ≡ p)

both_words :
    {a b : ℕ} (z : Bool) → ((a ≡ 0) × (b ≡ 3)) ⊎ ((a ≡ 2) × (b ≡ 1)) → let p = zero_parity (cond z a b) in
    Read (cond z a b) (cond z 0 1) (cond p 0 1) × Read (cond z b a) (cond z 1 0) (cond p 1 0)
unfolding output
both_words true (inl (e, f)) = rw (e, f) ((refl, refl), (refl, refl))
both_words true (inr (e, f)) = rw (e, f) ((refl, refl), (refl, refl))
both_words false (inl (e, f)) = rw (e, f) ((refl, refl), (refl, refl))
both_words false (inr (e, f)) = rw (e, f) ((refl, refl), (refl, refl))

-- their metrics: a branch whose output 1 is its bit counts both values of it together
together : (a x y : ℤ) (b : ℕ) → signed b a +ℤ ((pos 0 +ℤ signed b x) +ℤ y) ≡ signed b (a +ℤ x) +ℤ y
unfolding signed
together a x y zero = simp ints (omega arith)
together a x y (suc b) = simp ints (omega arith)

opposed : (x y : ℤ) (z p : Bool) → signed (cond z 1 0) x +ℤ signed (cond p 1 0) y ≡ neg_ℤ (signed (cond z 0 1) x +ℤ signed (cond p 0 1) y)
unfolding signed
opposed x y true true = simp ints (omega arith)
opposed x y true false = simp ints (omega arith)
opposed x y false true = simp ints (omega arith)
opposed x y false false = simp ints (omega arith)

module _ (t : Table) (v : Values) (k : ℕ) (two : t.outputs ≡ 2) where
  branch_is :
      (s b p w : ℕ) → word t s b ≡ w → Read w b p → branch_metric t v k s b ≡ signed b (own_at t v k) +ℤ signed p (other_at t v k)
  unfolding branch_metric word_metric
  branch_is s b p w read (own, parity) = rw (read, two, own, parity) (together _ _ _ b)

  module _ {half i : ℕ} (wing : IsWing t.next t.words half i) where
    abbrev far_state : ℕ
    far_state = i + half

    abbrev z : Bool
    z = zero_straight t.next i

    abbrev p : Bool
    p = zero_parity (straight_word t.next t.words i)

    wing_is : Wing (next_state t) (branch_metric t v k) half i z (signed (cond z 0 1) (own_at t v k) +ℤ signed (cond p 0 1) (other_at t v k))
    unfolding next_state word
    wing_is =
        let words = wing.has in
        let (straight, across) = both_words z words.near in
        let lead = straight_on wing.leads.near in
        record {
          near = straight_entry t.next i z ∙ lead.0;
          near_metric = branch_is i _ _ _ (straight_entry t.words i z) straight;
          near_across = cross_entry t.next i z ∙ lead.1;
          near_across_metric = branch_is i _ _ _ (cross_entry t.words i z) across ∙ opposed _ _ z p;
          far = straight_entry t.next far_state z ∙ ap₂ (cond z) wing.leads.zero_across wing.leads.one_across ∙ lead.1;
          far_metric =
              branch_is far_state _ _ _ (straight_entry t.words far_state z ∙ ap₂ (cond z) words.zero_same words.one_same) straight;
          far_across = cross_entry t.next far_state z ∙ ap₂ (cond z) wing.leads.one_across wing.leads.zero_across ∙ lead.0;
          far_across_metric =
              branch_is far_state _ _ _ (cross_entry t.words far_state z ∙ ap₂ (cond z) words.one_same words.zero_same) across
              ∙ opposed _ _ z p;
        }

  pub table_wings :
      {half : ℕ} {signs : List ℤ} → ((i : ℕ) → i < half → IsWing t.next t.words half i) → AreSigns t.next t.words half signs
      → Wings (next_state t) (branch_metric t v k) half signs (own_at t v k) (other_at t v k)
  table_wings wing are = record {
    wing = λ i l.
        rw (
          are.input i l,
          are.parity i l,
          is_minus_lem (zero_straight t.next i),
          is_minus_lem (zero_parity (straight_word t.next t.words i)),
        ) (wing_is (wing i l));
  }
