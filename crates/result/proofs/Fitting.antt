-- What the tests of a call of `conclude` say of its lists.
-- Assumes nothing.
use Rattle.std.specs.Prelude.{◌≡◌, ◌↔◌, refl, IsTrue, Bool, true, false, ◌&&◌, List, ℕ, ℤ, pos, map, eqb, leb, length}
use Rattle.std.specs.List.{All}
use Rattle.std.proofs.Common.{sym, eqb-true, eq-eqb, map-id}
use Rattle.lists.specs.laws.Every.{every_at, at_every}
use Rattle.lists.specs.laws.Tests.{and_right, and_true}
use Rattle.frame.specs.Interleaver.{permutes, deinterleave}
use Rattle.frame.specs.laws.Interleaving.{Permutes}
use Rattle.frame.proofs.laws.Interleaving.{permuting}
use Rattle.result.specs.Result.{ConcludeCall, ConcludeLent, conclude_lists_fit, all_free}

-- a test of all marks
pub marks_free : (free : Bool) (marks : List ℕ) → (IsTrue free ↔ All (λ m. m ≡ 2) marks) → free ≡ all_free marks
marks_free true marks h = sym (at_every (λ m. eqb m 2) 0 marks (λ i l. eq-eqb _ _ (h.0 refl i 0 l)))
marks_free false marks h = go (all_free marks) refl
  where
    go : (b : Bool) → all_free marks ≡ b → false ≡ b
    go true e = h.1 (λ i d l. eqb-true _ _ (every_at (λ m. eqb m 2) d marks e i l))
    go false e = refl

pub pattern_permutes : (p : List ℕ) → true ≡ (leb (length p) 4096 && permutes (length p) p) → Permutes (length p) p
pattern_permutes p e = permuting (length p) p refl (and_right (leb (length p) 4096) _ (sym e))

module _ (c : ConcludeCall) (l : ConcludeLent)
    (passes : true ≡ (eqb (length c.marks1) (length c.pattern) && eqb (length c.marks2) (length c.pattern) && eqb (length c.margins) (length c.pattern) && eqb (length c.extrinsics) (length c.pattern)))
    (results : true ≡ (eqb (length l.bits) (length c.pattern) && eqb (length l.margins) (length c.pattern) && eqb (length l.extrinsics) (length c.pattern))) where
  pub fits : conclude_lists_fit c l ≡ true
  unfolding conclude_lists_fit
  fits = and_true (sym passes) (sym results)

-- entries that are put in their places as they are
pub in_place : (pattern : List ℕ) (xs was out : List ℤ)
    → ((a b : ℤ) → Permutes (length pattern) pattern → length xs ≡ length pattern → length was ≡ length pattern → out ≡ deinterleave b pattern (map (λ (e : ℤ). e) xs))
    → Permutes (length pattern) pattern → length xs ≡ length pattern → length was ≡ length pattern → out ≡ deinterleave (pos 0) pattern xs
in_place pattern xs was out h p l o = rw (map-id xs) at (h (pos 0) (pos 0) p l o)
