-- A received frame spread out: where every received value has the sign of its sent bit or is 0, so has the value of every place, sent or not.
-- Assumes nothing.
use Rattle.std.specs.Prelude.{◌≡◌, refl, Bool, true, false, cond, List, ℕ, ◌<◌, ℤ, pos, ◌≤ℤ◌, length, get_or}
use Rattle.std.proofs.Common.{sym, ◌∙◌, arith}
use Rattle.std.proofs.lemmas.Bool.{false≢true}
use Rattle.std.proofs.Math.Decide.{dec_lt}
use Rattle.std.specs.Int.Signed.{≤ℤ_refl}
use Rattle.std.proofs.Math.ListN.{get_or-eq_default}
use Rattle.lists.specs.Lists.{count}
use Rattle.trellis.specs.Path.{signed}
use Rattle.trellis.proofs.laws.Signs.{signed_zero}
use Rattle.frame.specs.Frame.{spread}
use Rattle.frame.specs.laws.Puncturing.{sent_to, sent_room, spread_at_lem}

-- a flag that is set is one of the list
flag_inside : (fs : List Bool) (i : ℕ) → get_or fs i false ≡ true → i < length fs
flag_inside fs i e = elim (dec_lt i (length fs)) [
  | yes h ↦ h
  | no h ↦ absurd (false≢true (sym (get_or-eq_default fs false {n = i} (omega arith)) ∙ e))
]

module _ (fs : List Bool) (bits sent : List ℕ) (received : List ℤ) (long : length sent ≡ count (λ (b : Bool). b) fs)
    (in_place : (i : ℕ) → get_or (spread 0 fs sent) i 0 ≡ cond (get_or fs i false) (get_or bits i 0) 0)
    (signs : (i : ℕ) → i < length sent → pos 0 ≤ℤ signed (get_or sent i 0) (get_or received i (pos 0))) where
  pub spread_signed : (i : ℕ) → pos 0 ≤ℤ signed (get_or bits i 0) (get_or (spread (pos 0) fs received) i (pos 0))
  spread_signed i = rw (spread_at_lem (pos 0) fs received i) (go (get_or fs i false) refl)
    where
      go : (f : Bool) → get_or fs i false ≡ f → pos 0 ≤ℤ signed (get_or bits i 0) (cond f (get_or received (sent_to fs i) (pos 0)) (pos 0))
      go false e = rw (signed_zero (get_or bits i 0)) (≤ℤ_refl (pos 0))
      go true e =
          let here : get_or sent (sent_to fs i) 0 ≡ get_or bits i 0 = rw e at (sym (spread_at_lem 0 fs sent i) ∙ in_place i) in
          rw here at (signs (sent_to fs i) (omega (arith, sent_room fs i (flag_inside fs i e) e)))
