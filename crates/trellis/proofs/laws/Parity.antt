-- All path metrics of one pass have the same parity, so that twice a free position's margin is the difference of the two bests, with no rest.
-- Assumes nothing.
use Rattle.std.specs.Prelude.{◌≡◌, ℤ, pos, ◌-ℤ◌, ◌*ℤ◌, length}
use Rattle.std.proofs.Math.Path.{refl, sym}
use Rattle.std.proofs.Common.{ap, ◌∙◌, suc-ne-zero, arith}
use mathlib.Core.List.{List, [], ◌∷◌}
use Rattle.std.proofs.Math.Option.{Option, none, some}
use Prim.Native.Nat.{ℕ, zero, suc}
use Rattle.std.proofs.Math.Nat.{suc_inj}
use Rattle.integers.specs.Integers.{half}
use Rattle.integers.specs.laws.Bounds.{parity}
use Rattle.integers.specs.laws.Laws.{parity_sum, half_exact}
use Rattle.trellis.specs.declared.End.{End}
use Rattle.trellis.specs.declared.Outcome.TheVariants.{Free}
use Rattle.trellis.specs.Table.{Table, next_state, word, output}
use Rattle.trellis.specs.Path.{Values, TrellisPath, channel_at, word_metric, branch_metric, metric_from, metric}
use Rattle.trellis.specs.Outcome.{best, outcome_of, outcome}
use Rattle.trellis.specs.Best.{IsPath}
use Rattle.trellis.proofs.laws.Greatest.{best_is_some}
use Rattle.trellis.proofs.laws.Signs.{signed_parity}

module _ (t : Table) (v : Values) where
  -- whatever the words, the bits and the states are
  word_parity : (k u w l : ℕ) → parity (word_metric (channel_at t v k) u l) ≡ parity (word_metric (channel_at t v k) w l)
  unfolding word_metric
  word_parity k u w zero = refl
  word_parity k u w (suc l) = parity_sum _ _ _ _ (word_parity k u w l) (signed_parity (output u l) _ ∙ sym (signed_parity (output w l) _))

  branch_parity : (k s r b c : ℕ) → parity (branch_metric t v k s b) ≡ parity (branch_metric t v k r c)
  unfolding branch_metric
  branch_parity k s r b c =
      parity_sum _ _ _ _ (signed_parity b _ ∙ sym (signed_parity c _)) (word_parity k (word t s b) (word t r c) t.outputs)

  from_parity : (k s r : ℕ) (p q : List ℕ) → length p ≡ length q → parity (metric_from t v k s p) ≡ parity (metric_from t v k r q)
  unfolding metric_from
  from_parity k s r [] [] e = refl
  from_parity k s r [] (c ∷ q) e = absurd (suc-ne-zero (length q) (sym e))
  from_parity k s r (b ∷ p) [] e = absurd (suc-ne-zero (length p) e)
  from_parity k s r (b ∷ p) (c ∷ q) e =
      parity_sum _ _ _ _ (branch_parity k s r b c) (from_parity (suc k) (next_state t s b) (next_state t r c) p q (suc_inj e))

  pub metric_parity : {end : End} {n : ℕ} {p q : TrellisPath} → IsPath t end n p → IsPath t end n q → parity (metric t v p) ≡ parity (metric t v q)
  unfolding metric
  metric_parity {end} {n} {p} {q} f g = from_parity 0 p.start q.start p.bits q.bits (f.bits.size ∙ sym g.bits.size)

  pub best_parity : (end : End) (n k b c : ℕ) (m l : ℤ) → best t v end n k b ≡ some m → best t v end n k c ≡ some l → parity m ≡ parity l
  best_parity end n k b c m l e f =
      let x = (best_is_some t v end n k b m).0 e in
      let y = (best_is_some t v end n k c l).0 f in
      ap parity (sym x.has) ∙ metric_parity x.in_class.path y.in_class.path ∙ ap parity y.has

-- m is half the difference of the two bests at position k, exactly
pub record Halved (t : Table) (v : Values) (end : End) (n k : ℕ) (m : ℤ) : Type 0 where
  pub zeros : ℤ
  pub ones : ℤ
  pub best_zero : best t v end n k 0 ≡ some zeros
  pub best_one : best t v end n k 1 ≡ some ones
  pub twice : pos 2 *ℤ m ≡ ones -ℤ zeros

pub free_halved : (t : Table) (v : Values) (end : End) (n k : ℕ) (m : ℤ) → outcome t v end n k ≡ some (Free m) → Halved t v end n k m
unfolding outcome outcome_of
free_halved t v end n k m e = go (best t v end n k 0) (best t v end n k 1) refl refl e
  where
    go : (x y : Option ℤ) → best t v end n k 0 ≡ x → best t v end n k 1 ≡ y → outcome_of x y ≡ some (Free m) → Halved t v end n k m
    go (some a) (some b) p q e =
        let h : m ≡ half (b -ℤ a) = cc in
        record { zeros = a; ones = b; best_zero = p; best_one = q; twice = rw h (half_exact b a (best_parity t v end n k 1 0 b a q p)) }
    go (some a) none p q e = let z : ◌≡◌ {A = ℕ} 0 1 = cc in absurd (omega arith)
    go none (some b) p q e = let z : ◌≡◌ {A = ℕ} 0 1 = cc in absurd (omega arith)
    go none none p q e = let z : ◌≡◌ {A = ℕ} 0 1 = cc in absurd (omega arith)
