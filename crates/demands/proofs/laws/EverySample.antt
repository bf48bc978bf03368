-- Channel values from a radio's samples, the proof; and that the statement allows one value only.
-- Assumes nothing.
use Rattle.std.specs.Prelude.{◌≡◌, ◌≢◌, Bool, true, false, List, map, ℕ, ◌*◌, ◌%◌, ◌<◌, Float, ℤ, pos, neg_ℤ, ◌-ℤ◌, ◌*ℤ◌, nat_abs, length, get_or}
use Rattle.std.proofs.Math.Path.{refl}
use Rattle.std.proofs.Common.{sym, ap, ◌∙◌, arith, ext_get_or}
use Rattle.std.proofs.lemmas.Bool.{false≢true}
use Rattle.std.proofs.Math.Option.{Option, none, some, Option-elim}
use Rattle.std.proofs.Math.Nat.{le_antisymm}
use Rattle.std.specs.Float.{nan, inf, fin}
use Rattle.std.specs.Float.Ieee.{up, down, neg, is_nan}
use Rattle.std.specs.Float.Ieee.Fits.{down_pos}
use Rattle.std.specs.Float.Ieee.Nearest.{closest}
use Rattle.std.specs.Float.Ieee.Scale.{finite}
use Rattle.std.proofs.Math.IntN.{ℤ_discrete}
use Rattle.std.proofs.lemmas.List.{length-map}
use Rattle.integers.specs.Integers.{limited}
use Rattle.integers.specs.laws.Linear.{ints}
use Rattle.lists.specs.Lists.{every}
use Rattle.lists.specs.laws.Every.{every_at}
use Rattle.lists.specs.laws.Listed.{map_at}
use Rattle.refusal.specs.laws.Kept.{after_done}
use Rattle.trellis.specs.Limits.{channel_limit}
use Rattle.samples.specs.declared.Setting.{Setting}
use Rattle.samples.specs.Samples.{zero, product, with_sign, nearest_value, sample_value, setting_fits, sample_values}
use Rattle.samples.proofs.laws.Calls.{accepted}
use Rattle.samples.specs.laws.Nearest.{distance as distance_of, closest_nearest, closest_tie}
use Rattle.samples.specs.laws.Settings.{IsNumber, product_is_number}
use Rattle.samples.specs.laws.Values.{values_opposite, reply_opposite, values_fit}
use Rattle.demands.specs.Sampled.{Fraction, distance, IsNearest, IsRounded, IsValue, AreValues, EverySampleCall}

-- ---- the nearest whole number

-- the opposite fraction is as far from the opposite whole number
distance_opposite : (o : ℤ) (b : ℕ) (k : ℤ) → nat_abs (neg_ℤ o -ℤ pos b *ℤ neg_ℤ k) ≡ nat_abs (o -ℤ pos b *ℤ k)
distance_opposite o b k = simp ints (omega arith)

opposite_twice : (k : ℤ) → neg_ℤ (neg_ℤ k) ≡ k
opposite_twice k = simp ints (omega arith)

size_opposite : (k : ℤ) → nat_abs (neg_ℤ k) ≡ nat_abs k
size_opposite k = simp ints (omega arith)

abbrev fraction : ℤ → ℕ → Fraction
fraction o b = record { over = o; under = b }

nearest_opposite : (o : ℤ) (b : ℕ) (w : ℤ) → IsNearest (fraction o b) w → IsNearest (fraction (neg_ℤ o) b) (neg_ℤ w)
nearest_opposite o b w h = record {
  nearest = λ k. rw (distance_opposite o b w, turned k) (h.nearest (neg_ℤ k));
  even = λ k other e.
      let apart : neg_ℤ k ≢ w = λ z. other (sym (opposite_twice k) ∙ ap neg_ℤ z) in
      ap (λ (n : ℕ). n % 2) (size_opposite w) ∙ h.even (neg_ℤ k) apart (sym (turned k) ∙ e ∙ distance_opposite o b w);
}
  where
    turned : (k : ℤ) → distance (fraction (neg_ℤ o) b) k ≡ distance (fraction o b) (neg_ℤ k)
    turned k = ap (λ (z : ℤ). distance (fraction (neg_ℤ o) b) z) (sym (opposite_twice k)) ∙ distance_opposite o b (neg_ℤ k)

module _ (a b : ℕ) (some-under : 0 < b) where
  natural : IsNearest (fraction (pos a) b) (pos (closest a b))
  unfolding distance_of
  natural = record { nearest = closest_nearest a b some-under; even = λ k other e. (closest_tie a b some-under k other e).0 }

  closest_is_nearest : (s : Bool) → IsNearest (fraction (with_sign s a) b) (with_sign s (closest a b))
  closest_is_nearest false = natural
  closest_is_nearest true = nearest_opposite (pos a) b (pos (closest a b)) natural

  -- and nothing else is
  only_natural : (w : ℤ) → IsNearest (fraction (pos a) b) w → w ≡ pos (closest a b)
  unfolding distance_of
  only_natural w h = elim (ℤ_discrete w (pos (closest a b))) [
    | yes e ↦ e
    | no other ↦
        let as_near = le_antisymm (h.nearest (pos (closest a b))) (closest_nearest a b some-under w) in
        let odd = (closest_tie a b some-under w other as_near).1 in
        let evenly = h.even (pos (closest a b)) (λ e. other (sym e)) (sym as_near) in
        absurd (omega arith)
  ]

  only_closest : (s : Bool) (w : ℤ) → IsNearest (fraction (with_sign s a) b) w → w ≡ with_sign s (closest a b)
  only_closest false w h = only_natural w h
  only_closest true w h =
      let upright : IsNearest (fraction (pos a) b) (neg_ℤ w) = rw (opposite_twice (pos a)) at (nearest_opposite (neg_ℤ (pos a)) b w h) in
      sym (opposite_twice w) ∙ ap neg_ℤ (only_natural (neg_ℤ w) upright)

-- ---- the value of a sample

rounded : (p : Float) → is_nan p ≡ false → IsRounded p (nearest_value p)
unfolding IsRounded nearest_value
rounded nan h = absurd (false≢true (sym (unfold is_nan in h)))
rounded (inf s) h = refl
rounded (fin s m e) h = record { whole = with_sign s (closest (m * up e) (down e)); nearest = closest_is_nearest (m * up e) (down e) (down_pos e) s; is = refl }

only_rounded : (p : Float) (v : ℤ) → IsRounded p v → v ≡ nearest_value p
unfolding IsRounded nearest_value
only_rounded nan v h = absurd h
only_rounded (inf s) v h = h
only_rounded (fin s m e) v h = h.is ∙ ap (limited channel_limit) (only_closest (m * up e) (down e) (down_pos e) s h.whole h.nearest)

module _ (s : Setting) (x : Float) where
  value_is : setting_fits s ≡ true → finite x ≡ true → IsValue (product s x) (sample_value s x)
  unfolding sample_value
  value_is h f = go (product s x) (product_is_number s x h f)
    where
      go : (p : Option Float) → IsNumber p → IsValue p (Option-elim p (pos 0) nearest_value)
      go none n = unfold IsValue Option-elim in refl
      go (some p) n = unfold IsValue Option-elim in rounded p (unfold IsNumber in n)

  only_value : (v : ℤ) → IsValue (product s x) v → v ≡ sample_value s x
  unfolding sample_value
  only_value v h = go (product s x) h
    where
      go : (p : Option Float) → IsValue p v → v ≡ Option-elim p (pos 0) nearest_value
      go none n = unfold IsValue Option-elim in n
      go (some p) n = unfold IsValue Option-elim in only_rounded p v n

-- ---- every call

module _ (s : Setting) (samples : List Float) where
  are_values : setting_fits s ≡ true → every finite samples ≡ true → AreValues s samples (map (sample_value s) samples)
  are_values h f = record {
    long = length-map samples (sample_value s);
    value = λ i l. rw (map_at (sample_value s) samples i zero (pos 0) l) (value_is s (get_or samples i zero) h (every_at finite zero samples f i l));
  }

  -- the statement allows these values and no others
  pub values_exactly : (values : List ℤ) → AreValues s samples values → values ≡ map (sample_value s) samples
  values_exactly values h =
      ext_get_or (pos 0) values (map (sample_value s) samples) (h.long ∙ sym (length-map samples (sample_value s)))
      (λ i l.
      let k : i < length samples = omega (arith, h.long) in
      only_value s (get_or samples i zero) _ (h.value i k) ∙ sym (map_at (sample_value s) samples i zero (pos 0) k))

pub every_sample_call : EverySampleCall
unfolding sample_values
every_sample_call = record {
  written = λ s samples lent e.
      let (long, setting, all) = accepted s samples lent e in
      rw (after_done e (map (sample_value s) samples) lent) (are_values s samples setting all);
  opposite = λ s samples lent.
      let same = reply_opposite s samples (length lent) in
      (same, λ e. rw (after_done (same ∙ e) (map (sample_value s) (map neg samples)) lent, after_done e (map (sample_value s) samples) lent) (values_opposite s samples));
  in_limits = λ s samples lent e. rw (after_done e (map (sample_value s) samples) lent) (values_fit s samples);
}
