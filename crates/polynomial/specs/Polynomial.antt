-- Patterns given by a polynomial (document 02, request 1): entry i is (f1·i + f2·i²) mod K; and the whole result of building one into a list.
-- Assumes nothing.
use Rattle.std.specs.Prelude.{Bool, ◌&&◌, List, [], ◌∷◌, ◌++◌, ℕ, ◌+◌, ◌*◌, ◌%◌, ◌^◌, eqb, ltb, length}
use Rattle.lists.specs.Lists.{listed}
use Rattle.refusal.specs.declared.Refusal.TheVariants.{Polynomial, Length, Lists, Pattern}
use Rattle.refusal.specs.Refusals.{Reply, Check, ◌unless◌, first_of, after}
use Rattle.frame.specs.Frame.{good_sizes}
use Rattle.frame.specs.Interleaver.{permutes}

-- what the builder reads: K and the two coefficients
pub record PatternCall : Type 0 where
  pub bits : ℕ
  pub f1 : ℕ
  pub f2 : ℕ

abbrev pub pattern_call_of : ℕ → ℕ → ℕ → PatternCall
pattern_call_of bits f1 f2 = record { bits = bits; f1 = f1; f2 = f2 }

-- entry i
unfoldable pub entry_at : PatternCall → ℕ → ℕ
entry_at c i = (c.f1 * i + c.f2 * i ^ 2) % c.bits

-- the K entries
unfoldable pub entries : PatternCall → List ℕ
entries c = listed (entry_at c) c.bits

-- both coefficients are below K (not so: 15)
unfoldable pub coefficients_fit : PatternCall → Bool
coefficients_fit c = ltb c.f1 c.bits && ltb c.f2 c.bits

-- K is 1..4,096, as that of a frame without tails (not so: 4)
unfoldable pub bits_fit : PatternCall → Bool
bits_fit c = good_sizes c.bits 0

-- the checks before the entries are looked at; `long` is the length of the list lent
unfoldable pub size_checks : PatternCall → ℕ → List Check
size_checks c long = Polynomial unless coefficients_fit c ∷ Length unless bits_fit c ∷ Lists unless eqb long c.bits ∷ []

-- and that the entries are each of 0..K-1 exactly once
unfoldable pub entry_checks : PatternCall → List Check
entry_checks c = Pattern unless permutes c.bits (entries c) ∷ []

-- all checks of a call
unfoldable pub pattern_checks : PatternCall → ℕ → List Check
pattern_checks c long = size_checks c long ++ entry_checks c

-- the reply, and the list as it is left
pub record PatternResult : Type 0 where
  pub reply : Reply
  pub pattern : List ℕ

abbrev pub pattern_result_of : Reply → List ℕ → PatternResult
pattern_result_of r pattern = record { reply = r; pattern = pattern }

unfoldable pub pattern_built : PatternCall → List ℕ → PatternResult
pattern_built c pattern = let r = first_of (pattern_checks c (length pattern)) in pattern_result_of r (after r (entries c) pattern)
