-- The values of one section, as the sweeps gather them: the a-priori value, and the metrics of its words from the section's part of the
-- channel list. They are what is asked at a step, and they give the definition's branch metrics.
-- Assumes nothing.
use Rattle.std.specs.Prelude.{◌≡◌, refl, List, ℕ, zero, suc, ◌+◌, ◌*◌, ◌^◌, ◌<◌, ℤ, pos, ◌+ℤ◌, length, get_or, take, drop}
use Rattle.std.proofs.Common.{sym, ap, ap₂, ◌∙◌, mul-suc, mul-le-mul_left, arith, length-take, length-drop, get_or-take, get_or-drop}
use Rattle.integers.specs.laws.Bounds.{Within}
use Rattle.trellis.specs.Table.{Table, word, output}
use Rattle.trellis.specs.Path.{Values, apriori_at, channel_at, signed, word_metric, branch_metric}
use Rattle.trellis.specs.Limits.{channel_limit}
use Rattle.siso.specs.laws.Held.{branch_metric_of, WordMetrics, Ready}
use Rattle.siso.specs.laws.Pass.{Pass}
use Rattle.siso.specs.laws.Passed.{table_limits, table_stays, table_words, values_bounded}

-- ---- the part of the channel list

-- the channel values of section k
abbrev pub part_at : Table → Values → ℕ → List ℤ
part_at t v k = take t.outputs (drop (t.outputs * k) v.channel)

-- a word's metric looks at its outputs alone
word_metric_ext : (y z : ℕ → ℤ) (w m : ℕ) → ((l : ℕ) → l < m → y l ≡ z l) → word_metric y w m ≡ word_metric z w m
unfolding word_metric
word_metric_ext y z w zero h = refl
word_metric_ext y z w (suc m) h = ap₂ (λ x e. x +ℤ signed (output w m) e) (word_metric_ext y z w m (λ l i. h l (omega arith))) (h m (omega arith))

module _ {t : Table} {n : ℕ} {v : Values} (p : Pass t n v) (k : ℕ) (here : k < n) where
  part_length : length (part_at t v k) ≡ t.outputs
  part_length =
      simp (length-take, length-drop) (omega (arith, p.channel_long, mul-le-mul_left {m = suc k} {n = n} t.outputs here, mul-suc t.outputs k))

  part_at_lem : (l : ℕ) → l < t.outputs → get_or (part_at t v k) l (pos 0) ≡ channel_at t v k l
  unfolding channel_at
  part_at_lem l h = rw (get_or-take, get_or-drop)

  part_within : (l : ℕ) → l < length (part_at t v k) → Within channel_limit (get_or (part_at t v k) l (pos 0))
  part_within l h = rw (part_at_lem l (omega (arith, part_length))) ((values_bounded p).channel k l)

  part_metric : (w : ℕ) → word_metric (λ l. get_or (part_at t v k) l (pos 0)) w t.outputs ≡ word_metric (channel_at t v k) w t.outputs
  part_metric w = word_metric_ext _ _ w t.outputs part_at_lem

-- ---- the words' metrics and the a-priori value

-- what is asked of a section at a step
pub section_ready :
    {t : Table} {n : ℕ} {v : Values} (p : Pass t n v) {k : ℕ} → k < n → {room : ℕ} → room ≡ 2 ^ t.outputs
    → Ready t.states t.next t.words (part_at t v k) room (apriori_at v k)
section_ready {t} {n} {v} p {k} here enough = record {
  few = (table_limits p).most_states;
  nexts = (table_limits p).next_length;
  all_words = (table_limits p).words_length;
  stays = table_stays p;
  known = λ i l. rw (part_length p k here) (table_words p i l);
  outputs = rw (part_length p k here) (table_limits p).most_outputs;
  enough = enough ∙ ap (λ (m : ℕ). 2 ^ m) (sym (part_length p k here));
  values = part_within p k here;
  apriori = (values_bounded p).apriori k;
}

pub record Gathered (t : Table) (v : Values) (k : ℕ) (g : List ℤ) (a : ℤ) : Type 0 where
  pub words : (s b : ℕ) → s < t.states → b < 2 → get_or g (get_or t.words (2 * s + b) 0) (pos 0) ≡ word_metric (channel_at t v k) (get_or t.words (2 * s + b) 0) t.outputs
  pub apriori : a ≡ apriori_at v k

-- where the words' metrics are those of the part
pub gathered :
    {t : Table} {n : ℕ} {v : Values} (p : Pass t n v) {k : ℕ} → k < n → (g : List ℤ) {a : ℤ}
    → length g ≡ 2 ^ t.outputs → WordMetrics (part_at t v k) g → a ≡ apriori_at v k → Gathered t v k g a
gathered p {k} here g many words apriori = record {
  words = λ s b state bit.
      words _ (rw many (table_words p (2 * s + b) (omega arith))) ∙ rw (part_length p k here) (part_metric p k here _);
  apriori = apriori;
}

module _ {t : Table} {n : ℕ} {v : Values} (p : Pass t n v) {k : ℕ} {g : List ℤ} {a : ℤ} (h : Gathered t v k g a) where
  pub gathered_branch : (s b : ℕ) → s < t.states → b < 2 → branch_metric_of t.words g a s b ≡ branch_metric t v k s b
  unfolding branch_metric word
  gathered_branch s b state bit = rw (h.words s b state bit, h.apriori)
