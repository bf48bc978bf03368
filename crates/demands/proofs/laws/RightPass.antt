-- The lists of a pass whose values agree with one of its paths: every extrinsic has the sign of the path's bit or is 0, and the margin of a free
-- position with a systematic value other than 0 has that sign.
-- Assumes nothing.
use Rattle.std.specs.Prelude.{◌≡◌, ◌≢◌, true, false, ℕ, ◌+◌, ◌≤◌, ◌<◌, ℤ, nat_abs, ◌≤ℤ◌, ◌<ℤ◌, get_or}
use Rattle.std.proofs.Math.Path.{refl}
use Rattle.std.proofs.Math.Option.{Option, none, some, Option-elim}
use Rattle.std.proofs.Common.{arith}
use Rattle.std.proofs.Math.IntN.{pos}
use Rattle.std.specs.Int.Signed.{≤ℤ_refl}
use Rattle.integers.specs.laws.Linear.{ints}
use Rattle.lists.specs.laws.Listed.{listed_at}
use Rattle.trellis.specs.declared.End.{End}
use Rattle.trellis.specs.declared.Outcome.{Outcome}
use Rattle.trellis.specs.Table.{Table, systematic, shaped, branched}
use Rattle.trellis.specs.Path.{Values, TrellisPath, apriori_at, channel_at, signed}
use Rattle.trellis.specs.Outcome.{outcome, forced, margin, systematic_at, intrinsic, position_of, position, margins, extrinsics}
use Rattle.trellis.proofs.laws.Signs.{signed_zero}
use Rattle.trellis.proofs.laws.Emptiness.{outcome_is_free}
use Rattle.trellis.proofs.laws.RightSigned.{RightSigned, right_margin, right_extrinsic}

-- what is at least the size of something other than 0 is more than 0
more_than_zero : (a x m : ℤ) → x ≢ pos 0 → pos (nat_abs a + nat_abs x) ≤ℤ m → pos 0 <ℤ m
more_than_zero a x m = simp ints (omega arith)

module _ (t : Table) (v : Values) (end : End) (n : ℕ) (p : TrellisPath) (right : RightSigned t v end n p) (shape : shaped t ≡ true) (branches : branched t ≡ true)
    (m : ℕ) (few : m ≤ n) (k : ℕ) (here : k < m) where
  abbrev bit : ℕ
  bit = get_or p.bits k 0

  pub extrinsic_signed : pos 0 ≤ℤ signed bit (get_or (extrinsics t v end n m) k (pos 0))
  unfolding extrinsics position position_of Option-elim
  extrinsic_signed = rw (listed_at _ m k (pos 0) here) (go (outcome t v end n k) refl)
    where
      go : (o : Option Outcome) → outcome t v end n k ≡ o → pos 0 ≤ℤ signed bit (Option-elim (position_of (intrinsic t v k) o) (pos 0) (λ p. p.extrinsic))
      go none e = rw (signed_zero bit) (≤ℤ_refl (pos 0))
      go (some o) e = right_extrinsic t v end n p right k bit refl shape branches (omega arith) o e

  pub margin_signed : systematic t ≡ true → forced t end n k ≡ false → channel_at t v k 0 ≢ pos 0 → pos 0 <ℤ signed bit (get_or (margins t v end n m) k (pos 0))
  unfolding margins position position_of Option-elim margin systematic_at
  margin_signed code free told =
      let (x, is) = (outcome_is_free t end n k v).1 free in
      rw (listed_at _ m k (pos 0) here, is)
      (more_than_zero (apriori_at v k) (channel_at t v k 0) (signed bit x) told
      (rw code at (right_margin t v end n p right k bit refl shape branches (omega arith) x is)))
