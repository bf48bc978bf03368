-- One pass whose values agree with one of its paths. That path has the greatest metric; at a free position the margin has the sign of the path's
-- bit and at least the size of what the pass was told of it, and the extrinsic has that sign or is 0.
-- Assumes nothing.
use Rattle.std.specs.Prelude.{◌≡◌, refl, ◌≢◌, true, ℕ, zero, suc, ◌+◌, ◌-◌, ◌<◌, ℤ, pos, neg_ℤ, nat_abs, ◌-ℤ◌, ◌*ℤ◌, ◌≤ℤ◌, length, get_or, take}
use Rattle.std.proofs.Math.Path.{sym}
use Rattle.std.proofs.Common.{◌∙◌, arith}
use mathlib.Core.List.Memᴰ
use mathlib.Core.List.{map, Memᴰ}
use Rattle.std.proofs.Math.Option.{some}
use Rattle.std.proofs.Math.Nat.{zero-add}
use Rattle.std.specs.Int.Signed.{≤ℤ_refl}
use Rattle.integers.specs.laws.Linear.{ints}
use Rattle.trellis.specs.declared.End.{End}
use Rattle.trellis.specs.declared.Outcome.{Outcome}
use Rattle.trellis.specs.declared.Outcome.TheVariants.{Free, Forced}
use Rattle.trellis.specs.Table.{Table, shaped, branched}
use Rattle.trellis.specs.Path.{Values, TrellisPath, apriori_at, signed, finish, metric, paths}
use Rattle.trellis.specs.Outcome.{greatest, best, outcome, systematic_at, intrinsic, extrinsic}
use Rattle.trellis.specs.Best.{IsPath, InClass}
use Rattle.trellis.proofs.laws.Listing.{paths_are}
use Rattle.trellis.proofs.laws.Greatest.{greatest_is_some, best_is_some}
use Rattle.trellis.proofs.laws.Signs.{signed_zero, signed_rest}
use Rattle.trellis.proofs.laws.Parity.{Halved, free_halved}
use Rattle.trellis.proofs.laws.Agreement.{Agrees, AgreesFrom, agrees_from, Ahead, ahead_half, from_most, from_less, from_told}

-- a margin signed by a bit: half of what the best with that bit is ahead of the best with the other
record Lead (t : Table) (v : Values) (end : End) (n k b : ℕ) (m : ℤ) : Type 0 where
  own : ℤ
  other : ℤ
  best_own : best t v end n k b ≡ some own
  best_other : best t v end n k (1 - b) ≡ some other
  twice : pos 2 *ℤ signed b m ≡ own -ℤ other

lead_of : (t : Table) (v : Values) (end : End) (n k b : ℕ) (m : ℤ) → b < 2 → Halved t v end n k m → Lead t v end n k b m
unfolding signed
lead_of t v end n k zero m h w =
    record { own = w.zeros; other = w.ones; best_own = w.best_zero; best_other = w.best_one; twice = turned m w.ones w.zeros w.twice }
  where
    turned : (m x y : ℤ) → pos 2 *ℤ m ≡ x -ℤ y → pos 2 *ℤ neg_ℤ m ≡ y -ℤ x
    turned m x y = simp ints (omega arith)
lead_of t v end n k (suc zero) m h w =
    record { own = w.ones; other = w.zeros; best_own = w.best_one; best_other = w.best_zero; twice = w.twice }
lead_of t v end n k (suc (suc b)) m h w = absurd (omega arith)

-- p is a path of n sections, and every value has the sign of its bit there, or is zero
pub record RightSigned (t : Table) (v : Values) (end : End) (n : ℕ) (p : TrellisPath) : Type 0 where
  pub path : IsPath t end n p
  pub agrees : (k : ℕ) → k < n → Agrees t v k (finish t p.start (take k p.bits)) (get_or p.bits k 0)

module _ (t : Table) (v : Values) (end : End) (n : ℕ) (p : TrellisPath) (right : RightSigned t v end n p) where
  all_agree : AgreesFrom t v 0 p.start p.bits
  all_agree = agrees_from t v 0 p.start p.bits (λ k h. rw (zero-add k) (right.agrees k (omega (arith, right.path.bits.size))))

  -- no path has a greater metric
  pub right_most : (q : TrellisPath) → IsPath t end n q → metric t v q ≤ℤ metric t v p
  unfolding metric
  right_most q e = from_most t v 0 p.start q.start p.bits q.bits (right.path.bits.size ∙ sym e.bits.size) all_agree

  pub right_greatest : greatest (map (metric t v) (paths t end n)) ≡ some (metric t v p)
  right_greatest =
      (greatest_is_some _ _).1 (record { member = Memᴰ.map (metric t v) ((paths_are t end n p).1 right.path); bound = below })
    where
      below : (x : ℤ) → Memᴰ x (map (metric t v) (paths t end n)) → x ≤ℤ metric t v p
      below x m = let r = Memᴰ.of_map (metric t v) (paths t end n) m in rw (← r.2) (right_most r.0 ((paths_are t end n r.0).0 r.1))

  -- at position k, where the path's bit is b
  module _ (k b : ℕ) (has : get_or p.bits k 0 ≡ b) where
    right_best : best t v end n k b ≡ some (metric t v p)
    right_best =
        (best_is_some t v end n k b (metric t v p)).1
        (record { path = p; in_class = record { path = right.path; bit = has }; has = refl; bound = λ q i. right_most q i.path })

    module _ (shape : shaped t ≡ true) (branches : branched t ≡ true) (here : k < n) where
      here_too : k < length p.bits
      here_too = omega (arith, right.path.bits.size)

      -- a path with another bit is behind
      path_behind : (q : TrellisPath) (c : ℕ) → InClass t end n k c q → b ≢ c → Ahead (signed b (intrinsic t v k)) (metric t v q) (metric t v p)
      unfolding metric
      path_behind q c h d =
          rw (has, zero-add k) at
          (from_less t v shape branches 0 p.start q.start p.bits q.bits right.path.start h.path.start
          (right.path.bits.size ∙ sym h.path.bits.size) right.path.bits.bit h.path.bits.bit all_agree k here_too
          (λ e. d (sym has ∙ e ∙ h.bit)))

      -- the margin holds at least what the pass was told
      right_lead : (m : ℤ) → outcome t v end n k ≡ some (Free m) → signed b (intrinsic t v k) ≤ℤ signed b m
      right_lead m e =
          let w = lead_of t v end n k b m (rw has at (right.path.bits.bit k)) (free_halved t v end n k m e) in
          let own : metric t v p ≡ w.own = cc (w.best_own, right_best) in
          let other = (best_is_some t v end n k (1 - b) w.other).0 w.best_other in
          ahead_half (rw (own, other.has) at (path_behind other.path (1 - b) other.in_class (omega arith))) w.twice

      -- the margin has the bit's sign, and at least the size of the a-priori and the systematic value together
      pub right_margin : (m : ℤ) → outcome t v end n k ≡ some (Free m) → pos (nat_abs (apriori_at v k) + nat_abs (systematic_at t v k)) ≤ℤ signed b m
      right_margin m e = rw told at (right_lead m e)
        where
          told : signed b (intrinsic t v k) ≡ pos (nat_abs (apriori_at v k) + nat_abs (systematic_at t v k))
          told =
              rw (has, zero-add k) at
              (from_told t v shape branches 0 p.start p.bits right.path.start right.path.bits.bit all_agree k here_too)

      -- the extrinsic has the bit's sign, or is 0
      pub right_extrinsic : (o : Outcome) → outcome t v end n k ≡ some o → pos 0 ≤ℤ signed b (extrinsic (intrinsic t v k) o)
      unfolding extrinsic
      right_extrinsic (Free m) e = signed_rest b (intrinsic t v k) m (right_lead m e)
      right_extrinsic (Forced c) e = rw (signed_zero b) (≤ℤ_refl (pos 0))
