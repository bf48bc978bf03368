-- Positions told from the words of their best metrics: one, one more, and all. From the best metrics of all starts every position can be told, and the
-- lists are then the pass's.
-- Assumes nothing.
use mathlib.Core.Path.{◌≡◌, refl, sym, ap, ap₂, ◌∙◌}
use mathlib.Core.Bool.{Bool, true, false, cond, ◌&&◌}
use mathlib.Core.List.{List}
use mathlib.Core.Option.{Option, none, some, Option-elim}
use Prim.Native.Nat.{ℕ, ◌+◌, ◌*◌, ◌<◌, ◌≤◌}
use native.Mathlib.Decide.{ℕ_discrete}
use native.Mathlib.Omega.{arith}
use lib.IntN.{ℤ, pos, ◌+ℤ◌, ◌-ℤ◌}
use lib.ListN.{length, get_or, set}
use lib.Seq.{get_or-set_same, get_or-set_other}
use Rattle.integers.specs.Integers.{half}
use Rattle.integers.specs.laws.Linear.{ints}
use Rattle.lists.specs.Lists.{found}
use Rattle.trellis.specs.declared.End.{End}
use Rattle.trellis.specs.declared.Position.{Position}
use Rattle.trellis.specs.Table.{Table, systematic}
use Rattle.trellis.specs.Path.{Values, apriori_at}
use Rattle.trellis.specs.Outcome.{outcome_of, position_of, extrinsic, mark, margin, intrinsic}
use Rattle.metrics.specs.Words.{is_nothing, held}
use Rattle.siso.specs.laws.Pass.{Pass, Bests, Last, Written}
use Rattle.siso.specs.laws.Told.{Tellable, mark_at, margin_at, extrinsic_at, IsAt}
use Rattle.siso.proofs.Gathering.{written_positions}
use Rattle.siso.proofs.Settled.{told_is, tellable, position_is}
use Rattle.butterfly.specs.laws.Positions.{bests_at, ToldAt}

-- ---- one position

minus_zero : (z : ℤ) → z -ℤ pos 0 ≡ z
minus_zero z = simp ints (omega arith)

-- what is worked out of two words, by whether both stand for a metric
abbrev free_of : ℤ → ℤ → Bool
free_of zero one = found (held zero) && found (held one)

abbrev less_of : Bool → ℤ → ℤ → ℤ → ℤ
less_of free zero one part = cond free (half (one -ℤ zero) -ℤ part) (pos 0)

module _ (own zero one : ℤ) where
  -- by the tests of both words
  abbrev word : Bool → ℤ → Option ℤ
  word nothing z = cond nothing none (some z)

  abbrev told : Bool → Bool → Option Position
  told p q = position_of own (outcome_of (word p zero) (word q one))

  abbrev both : Bool → Bool → Bool
  both p q = found (word p zero) && found (word q one)

  mark_by : (p q : Bool) → cond (both p q) 2 (cond (found (word q one)) 1 0) ≡ mark_at (told p q)
  unfolding found outcome_of position_of mark Option-elim
  mark_by true true = refl
  mark_by true false = refl
  mark_by false true = refl
  mark_by false false = refl

  margin_by : (p q : Bool) → less_of (both p q) zero one (pos 0) ≡ margin_at (told p q)
  unfolding found outcome_of position_of margin Option-elim
  margin_by true true = refl
  margin_by true false = refl
  margin_by false true = refl
  margin_by false false = minus_zero _

  extrinsic_by : (p q : Bool) → less_of (both p q) zero one own ≡ extrinsic_at (told p q)
  unfolding found outcome_of position_of extrinsic Option-elim
  extrinsic_by true true = refl
  extrinsic_by true false = refl
  extrinsic_by false true = refl
  extrinsic_by false false = refl

-- the three entries that are set at k are the position's
pub told_at :
    {k : ℕ} {own : ℤ} {ms : List ℕ} {gs es : List ℤ} {free : Bool} {m : ℕ} {g e : ℤ} → k < length ms → k < length gs → k < length es
    → let zero = get_or gs k (pos 0) in
    let one = get_or es k (pos 0) in
    free ≡ free_of zero one
    → m ≡ cond free 2 (cond (found (held one)) 1 0) → g ≡ less_of free zero one (pos 0) → e ≡ less_of free zero one own
    → ToldAt k own ms gs es (set ms k m) (set gs k g) (set es k e)
told_at {k} {own} {ms} {gs} {es} in-marks in-margins in-extrinsics free-is m-is g-is e-is =
    let zero = get_or gs k (pos 0) in
    let one = get_or es k (pos 0) in
    record {
      is = record {
        mark_is = get_or-set_same ms k _ 0 in-marks ∙ m-is ∙ rw free-is (mark_by own zero one (is_nothing zero) (is_nothing one));
        margin_is = get_or-set_same gs k _ (pos 0) in-margins ∙ g-is ∙ rw free-is (margin_by own zero one (is_nothing zero) (is_nothing one));
        extrinsic_is = get_or-set_same es k _ (pos 0) in-extrinsics ∙ e-is ∙ rw free-is (extrinsic_by own zero one (is_nothing zero) (is_nothing one));
      };
      marks_others = λ j d. get_or-set_other ms k j _ 0 d;
      margins_others = λ j d. get_or-set_other gs k j _ (pos 0) d;
      extrinsics_others = λ j d. get_or-set_other es k j _ (pos 0) d;
    }

-- ---- position by position

-- own has the intrinsic parts, gs and es are the lists before; the first k positions are told, and the other words are as they were
module _ (own : ℕ → ℤ) (n : ℕ) (gs es : List ℤ) where
  pub record ToldUpto (k : ℕ) (ms' : List ℕ) (gs' es' : List ℤ) : Type 0 where
    pub marks_long : length ms' ≡ n
    pub margins_long : length gs' ≡ n
    pub extrinsics_long : length es' ≡ n
    pub is : (j : ℕ) → j < k → IsAt (position_of (own j) (bests_at j gs es)) j ms' gs' es'
    pub margin_ahead : (j : ℕ) → k ≤ j → get_or gs' j (pos 0) ≡ get_or gs j (pos 0)
    pub extrinsic_ahead : (j : ℕ) → k ≤ j → get_or es' j (pos 0) ≡ get_or es j (pos 0)

  pub told_none : {ms : List ℕ} → length ms ≡ n → length gs ≡ n → length es ≡ n → ToldUpto 0 ms gs es
  told_none m g e = record {
    marks_long = m;
    margins_long = g;
    extrinsics_long = e;
    is = λ j l. absurd (omega arith);
    margin_ahead = λ j l. refl;
    extrinsic_ahead = λ j l. refl;
  }

  pub told_more :
      {k : ℕ} {part : ℤ} {ms' ms'' : List ℕ} {gs' gs'' es' es'' : List ℤ}
      → ToldUpto k ms' gs' es' → part ≡ own k → ToldAt k part ms' gs' es' ms'' gs'' es''
      → length ms'' ≡ length ms' → length gs'' ≡ length gs' → length es'' ≡ length es'
      → ToldUpto (k + 1) ms'' gs'' es''
  told_more {k} {part} {ms'} {ms''} {gs'} {gs''} {es'} {es''} known part-is at m g e = record {
    marks_long = m ∙ known.marks_long;
    margins_long = g ∙ known.margins_long;
    extrinsics_long = e ∙ known.extrinsics_long;
    is = is_at;
    margin_ahead = λ j l. at.margins_others j (λ q. omega arith) ∙ known.margin_ahead j (omega arith);
    extrinsic_ahead = λ j l. at.extrinsics_others j (λ q. omega arith) ∙ known.extrinsic_ahead j (omega arith);
  }
    where
      here : position_of part (bests_at k gs' es') ≡ position_of (own k) (bests_at k gs es)
      here = ap₂ position_of part-is (ap₂ (λ z o. outcome_of (held z) (held o)) (known.margin_ahead k (omega arith)) (known.extrinsic_ahead k (omega arith)))

      is_at : (j : ℕ) → j < k + 1 → IsAt (position_of (own j) (bests_at j gs es)) j ms'' gs'' es''
      is_at j l = elim (ℕ_discrete j k) [
        | yes same ↦ rw (same, ← here) at.is
        | no d ↦
            let is = known.is j (omega arith) in
            record {
              mark_is = at.marks_others j d ∙ is.mark_is;
              margin_is = at.margins_others j d ∙ is.margin_is;
              extrinsic_is = at.extrinsics_others j d ∙ is.extrinsic_is;
            }
      ]

-- ---- all positions of a pass

-- the intrinsic part of a systematic table with two outputs
own_is :
    (t : Table) (v : Values) (k : ℕ) → t.outputs ≡ 2 → systematic t ≡ true
    → get_or v.apriori k (pos 0) +ℤ get_or v.channel (2 * k) (pos 0) ≡ intrinsic t v k
unfolding apriori_at
own_is t v k two sys = ap (λ o. apriori_at v k +ℤ get_or v.channel (o * k) (pos 0)) (sym two) ∙ told_is t v k (sym sys)

module _
    {t : Table} {n : ℕ} {v : Values} (p : Pass t n v) (end : End) {a : ℕ} (all : Last t end n a) {gs es : List ℤ}
    (known : Bests t v end n (a + 1) false gs es) where
  pub all_tellable : (k : ℕ) → k < n → Tellable (held (get_or gs k (pos 0))) (held (get_or es k (pos 0)))
  all_tellable k l = tellable p end all l (known.zero k l) (known.one k l)

  pub all_told :
      {ms : List ℕ} {gs' es' : List ℤ} → t.outputs ≡ 2 → systematic t ≡ true → length ms ≡ n → length gs' ≡ n → length es' ≡ n
      → ((k : ℕ) → k < n
      → IsAt (position_of (get_or v.apriori k (pos 0) +ℤ get_or v.channel (2 * k) (pos 0)) (bests_at k gs es)) k ms gs' es')
      → Written t v end n ms gs' es'
  all_told two sys ms-long gs-long es-long at =
      written_positions ms-long gs-long es-long
      (λ k l. rw (own_is t v k two sys, position_is p end all l (known.zero k l) (known.one k l)) at (at k l))
