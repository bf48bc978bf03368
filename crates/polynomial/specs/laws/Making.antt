-- What the builder of a pattern relies on: K and both coefficients are small, so that no sum wraps.
-- Assumes nothing.
use Rattle.std.specs.Prelude.{◌≡◌, true, false, List, ℕ, ◌*◌, ◌^◌, ◌≤◌, ◌<◌, length, Ok, Err}
use Rattle.std.proofs.Common.{sym, ap, ◌∙◌, mul_assoc, mul-le-mul, one-mul, pow-suc, arith}
use Rattle.std.proofs.Math.Nat.{pow-zero}
use borrow.Author.Tests.{ltb-true, eqb-true}
use Rattle.lists.specs.laws.Tests.{and_both}
use Rattle.refusal.specs.declared.Refusal.{Refusal}
use Rattle.refusal.specs.declared.Refusal.TheVariants.{Pattern}
use Rattle.refusal.specs.Refusals.{check, ◌then◌, first_of, after}
use Rattle.refusal.specs.laws.InTurn.{first_passes, first_refuses, Each, each_holds}
use Rattle.frame.specs.Interleaver.{permutes}
use Rattle.frame.proofs.laws.Checked.{sizes_small}
use Rattle.polynomial.specs.Polynomial.{PatternCall, entries, coefficients_fit, bits_fit, size_checks, entry_checks, pattern_checks, pattern_result_of, pattern_built}

-- K and both coefficients within their limits
pub record Small (c : PatternCall) : Type 0 where
  pub few : c.bits ≤ 4096
  pub f1_below : c.f1 < c.bits
  pub f2_below : c.f2 < c.bits

-- ---- the products of an entry, of a coefficient and an index below 4,096

pub linear_small : {a i : ℕ} → a < 4096 → i < 4096 → a * i ≤ 4095 * 4095
linear_small {a} {i} h k = mul-le-mul {n₂ = 4095} {m₂ = 4095} (omega arith) (omega arith)

pub square_small : {a i : ℕ} → a < 4096 → i < 4096 → a * i * i ≤ 4095 * 4095 * 4095
square_small {a} {i} h k = mul-le-mul {m₂ = 4095} (linear_small h k) (omega arith)

pub squared : (a i : ℕ) → a * i * i ≡ a * i ^ 2
squared a i = mul_assoc a i i ∙ ap (λ (x : ℕ). a * x) (sym (pow-suc i 1 ∙ ap (λ (x : ℕ). x * i) itself))
  where
    itself : i ^ 1 ≡ i
    itself = pow-suc i 0 ∙ ap (λ (x : ℕ). x * i) (pow-zero i) ∙ one-mul i

-- what entry goes by
pub ruleset products = (linear_small, square_small, squared)

-- ---- a call: refused, or built

module _ (c : PatternCall) (pattern : List ℕ) where
  pub record Fitting : Type 0 where
    pub small : Small c
    pub long : length pattern ≡ c.bits

  pub fitting : first_of (size_checks c (length pattern)) ≡ Ok tt → Fitting
  unfolding size_checks Each coefficients_fit bits_fit
  fitting e =
      let (coefficients, (sizes, (list, end))) = each_holds (size_checks c (length pattern)) e in
      let few : c.bits ≤ 4096 = omega (arith, (sizes_small c.bits 0 sizes).1) in
      let (f1, f2) = and_both _ _ coefficients in
      record {
        small = record {
          few = few;
          f1_below = ltb-true _ _ f1;
          f2_below = ltb-true _ _ f2;
        };
        long = eqb-true _ _ list;
      }

  pub built_refused : (r : Refusal) → first_of (size_checks c (length pattern)) ≡ Err r → pattern_result_of (Err r) pattern ≡ pattern_built c pattern
  unfolding pattern_built pattern_checks after
  built_refused r e = rw (first_refuses (size_checks c (length pattern)) (entry_checks c) e)

  module _ (passed : first_of (size_checks c (length pattern)) ≡ Ok tt) where
    pub built_no_pattern : permutes c.bits (entries c) ≡ false → pattern_result_of (Err Pattern) pattern ≡ pattern_built c pattern
    unfolding pattern_built pattern_checks entry_checks first_of check ◌then◌ after
    built_no_pattern e = rw (first_passes (size_checks c (length pattern)) (entry_checks c) passed, e)

    pub built_done : {made : List ℕ} → permutes c.bits (entries c) ≡ true → made ≡ entries c → pattern_result_of (Ok tt) made ≡ pattern_built c pattern
    unfolding pattern_built pattern_checks entry_checks first_of check ◌then◌ after
    built_done e is = rw (first_passes (size_checks c (length pattern)) (entry_checks c) passed, e, is)
