-- What the functions of rows go by: a row of one state alone, one of reserved words and one of zeros, and the ends' rows by the end.
-- Assumes nothing.
use Rattle.std.specs.Prelude.{◌≡◌, refl, ◌||◌, ◌+◌, ◌≤◌, ◌<◌, ℕ, zero, suc, ℤ, pos, replicate, set}
use Rattle.std.proofs.Common.{false, ap, add-one, ◌∙◌, arith, eq-eqb, ne_eqb, get_or-set_same, get_or-set_other}
use Rattle.std.proofs.Math.Option.{Option, some}
use Rattle.std.proofs.lemmas.List.{length-replicate}
use native.Mathlib.Decide.{ℕ_discrete}
use Rattle.lists.specs.Lists.{found}
use Rattle.trellis.specs.declared.End.{End}
use Rattle.trellis.specs.declared.End.TheVariants.{Zero, Open, Ring}
use Rattle.trellis.specs.Path.{admits}
use Rattle.trellis.specs.laws.Over.{over, over_zero, over_suc}
use Rattle.trellis.specs.laws.Sweeps.{boundary, ending, starts}
use Rattle.metrics.specs.Words.{row}
use Rattle.metrics.specs.laws.Held.{nothing, unreached}
use Rattle.metrics.proofs.Held.{found_larger}

-- the row that has one state alone, which may lie past it
pub boundary-row : (n a s : ℕ) → a < n → s < n → row (set (replicate n nothing) a (pos 0)) s ≡ boundary a s
unfolding boundary
boundary-row n a s h l = elim (ℕ_discrete s a) [
  | yes e ↦ rw (e, get_or-set_same (replicate n nothing) a (pos 0) (pos 0) (omega (arith, length-replicate n nothing)), eq-eqb a a refl)
  | no d ↦ rw (get_or-set_other (replicate n nothing) a s (pos 0) (pos 0) d, ne_eqb s a d) (unreached n s l)
]

pub past-row : (n a s : ℕ) → n ≤ a → s < n → row (replicate n nothing) s ≡ boundary a s
unfolding boundary
past-row n a s h l = rw (ne_eqb s a (λ e. omega arith)) (unreached n s l)

-- every state has 0
pub zeros-row : (n s : ℕ) → s < n → row (replicate n (pos 0)) s ≡ some (pos 0)
zeros-row zero s h = absurd (omega arith)
zeros-row (suc n) zero h = refl
zeros-row (suc n) (suc s) h = zeros-row n s (omega arith)

-- ---- where the ends let a path finish

module _ (end : End) (a s : ℕ) where
  pub ending_zero : end ≡ Zero → a < starts 16 end → ending end a s ≡ boundary 0 s
  unfolding boundary ending admits starts
  ending_zero e h = rw e (go a (rw e at h))
    where
      go : (a : ℕ) → a < starts 16 Zero → ending Zero a s ≡ boundary 0 s
      go zero h = refl
      go (suc a) h = absurd (omega arith)

  pub ending_open : end ≡ Open → a < starts 16 end → ending end a s ≡ some (pos 0)
  unfolding ending admits starts
  ending_open e h = rw e (go a (rw e at h))
    where
      go : (a : ℕ) → a < starts 16 Open → ending Open a s ≡ some (pos 0)
      go zero h = refl
      go (suc a) h = absurd (omega arith)

  pub ending_ring : end ≡ Ring → ending end a s ≡ boundary a s
  unfolding boundary ending admits
  ending_ring e = rw e

-- no path starts there
pub no_start : (end : End) (a s : ℕ) → starts 16 end ≤ a → s < 16 → ending end a s ≡ row (replicate 16 nothing) s
unfolding ending admits starts
no_start Zero a s h l = rw (ne_eqb a 0 (λ e. omega arith), unreached 16 s l)
no_start Open a s h l = rw (ne_eqb a 0 (λ e. omega arith), unreached 16 s l)
no_start Ring a s h l = rw (ne_eqb s a (λ e. omega arith), unreached 16 s l)

pub ruleset endings = (ending_zero, ending_open, ending_ring)

-- ---- whether paths arrive

-- some of the first n metrics is there
pub found_zero : (f : ℕ → Option ℤ) → found (over 0 f) ≡ false
unfolding found
found_zero f = rw (over_zero f)

pub found_more : (f : ℕ → Option ℤ) (n : ℕ) → found (over (n + 1) f) ≡ (found (over n f) || found (f n))
found_more f n = rw add-one (ap found (over_suc n f) ∙ found_larger (over n f) (f n))
