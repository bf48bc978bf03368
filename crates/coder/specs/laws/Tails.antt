-- The tail search by its first input: the first tail with a 0 in front where there is one, and else the first with a 1.
-- Assumes nothing.
use Rattle.std.specs.Prelude.{Some, None, ◌≡◌, ℕ, suc, ◌+◌, ◌-◌, ◌*◌, ◌/◌, ◌%◌, ◌≤◌, ◌<◌, get_or}
use Rattle.std.proofs.Math.Path.{refl, sym, ap}
use Rattle.std.proofs.Common.{ap₂, ◌∙◌, pow-suc, arith, lit<, pow_mono, eq-eqb, ne_eqb}
use mathlib.Core.List.{List, [], ◌∷◌, ◌++◌, map, head?}
use Rattle.std.proofs.Math.Option
use Rattle.std.proofs.Math.Option.{Option, some, or_else}
use Rattle.std.proofs.Math.Dec.{eqb}
use Rattle.lists.specs.Lists.{keep}
use Rattle.lists.specs.laws.Keep.{keep_append, keep_map}
use Rattle.trellis.specs.Table.{Table, next_state}
use Rattle.trellis.specs.Path.{finish, all_bits, terminating}
use Rattle.coder.specs.Coder.{tail_from}
use Rattle.coder.specs.laws.Leading.{Leads}
use Rattle.coder.specs.laws.Sections.{Tail, bits_of, inputs_of, prefixed, Short}

-- ---- the definition, one input at a time

module _ {A : Type 0} where
  head_append : (xs ys : List A) → head? (xs ++ ys) ≡ or_else (head? xs) (head? ys)
  unfolding or_else
  head_append [] ys = refl
  head_append (x ∷ xs) ys = refl

  head_map : {B : Type 0} (f : A → B) (xs : List A) → head? (map f xs) ≡ Option.map f (head? xs)
  head_map f [] = refl
  head_map f (x ∷ xs) = refl

module _ (t : Table) (s : ℕ) where
  side : (b n : ℕ) → head? (keep (λ p. eqb (finish t s p) 0) (map (λ p. b ∷ p) (all_bits n))) ≡ Option.map (λ p. b ∷ p) (tail_from t (next_state t s b) n)
  unfolding tail_from terminating finish
  side b n = rw (keep_map (λ p. eqb (finish t s p) 0) (λ p. b ∷ p) (all_bits n)) (head_map (λ p. b ∷ p) (terminating t (next_state t s b) n))

  pub tail_suc : (n : ℕ) → tail_from t s (suc n) ≡ or_else (Option.map (λ p. 0 ∷ p) (tail_from t (next_state t s 0) n)) (Option.map (λ p. 1 ∷ p) (tail_from t (next_state t s 1) n))
  unfolding tail_from terminating all_bits
  tail_suc n = rw (keep_append, head_append) (ap₂ or_else (side 0 n) (side 1 n))

-- ---- the same of the number that the code holds

-- r is the tail of n inputs from state s, under these next states
pub record IsTail (next : List ℕ) (s n : ℕ) (r : Tail) : Type 0 where
  pub short : Short n r
  pub is : (t : Table) → t.next ≡ next → inputs_of n r ≡ tail_from t s n

pub tail_boundary : (next : List ℕ) (s left : ℕ) → left ≡ 0 → s ≡ 0 → IsTail next s left (Some 0)
unfolding tail_from terminating keep all_bits finish bits_of
tail_boundary next s left h e = rw h (record { short = lit< tt; is = λ t q. rw (eq-eqb s 0 e) })

pub tail_away : (next : List ℕ) (s left : ℕ) → left ≡ 0 → (s ≡ 0 → ⊥) → IsTail next s left None
unfolding tail_from terminating keep all_bits finish
tail_away next s left h e = rw h (record { short = tt; is = λ t q. rw (ne_eqb s 0 e) })

bits_prefixed : (n m b : ℕ) → b < 2 → bits_of (suc n) (2 * m + b) ≡ b ∷ bits_of n m
unfolding bits_of
bits_prefixed n m b h =
    let e : (2 * m + b) % 2 ≡ b = omega arith in
    let f : (2 * m + b) / 2 ≡ m = omega arith in
    rw (e, f)

-- an input in front
module _ (next : List ℕ) (s n : ℕ) where
  on : ℕ → ℕ
  on b = get_or next (2 * s + b) 0

  prefixed_inputs : (b : ℕ) (r : Tail) → b < 2 → inputs_of (suc n) (prefixed b r) ≡ Option.map (λ p. b ∷ p) (inputs_of n r)
  prefixed_inputs b None h = refl
  prefixed_inputs b (Some m) h = ap {B = Option (List ℕ)} some (bits_prefixed n m b h)

  prefixed_short : (b : ℕ) (r : Tail) → b < 2 → Short n r → Short (suc n) (prefixed b r)
  prefixed_short b None h k = tt
  prefixed_short b (Some m) h k = omega (arith, pow-suc 2 n)

  -- the branch of bit b has the tail r
  after : (b : ℕ) (r : Tail) → IsTail next (on b) n r → (t : Table) → t.next ≡ next → tail_from t (next_state t s b) n ≡ inputs_of n r
  unfolding next_state on
  after b r w t e = ap (λ (l : List ℕ). tail_from t (get_or l (2 * s + b) 0) n) e ∙ sym (w.is t e)

  low : (m : ℕ) → IsTail next (on 0) n (Some m) → IsTail next s (suc n) (prefixed 0 (Some m))
  unfolding or_else
  low m w = record {
    short = prefixed_short 0 (Some m) (lit< tt) w.short;
    is = λ t e. prefixed_inputs 0 (Some m) (lit< tt) ∙ sym (tail_suc t s n ∙ rw (after 0 (Some m) w t e));
  }

  high : (r : Tail) → IsTail next (on 0) n None → IsTail next (on 1) n r → IsTail next s (suc n) (prefixed 1 r)
  unfolding or_else
  high r w v = record {
    short = prefixed_short 1 r (lit< tt) v.short;
    is = λ t e. prefixed_inputs 1 r (lit< tt) ∙ sym (tail_suc t s n ∙ rw (after 0 None w t e, after 1 r v t e));
  }

-- ---- the search, as it counts the sections left

module _ {next : List ℕ} {z : ℕ} {first : Tail} (s left : ℕ) (some_left : left ≡ 0 → ⊥) (zero-leads : z ≡ get_or next (2 * s + 0) 0) (w : IsTail next z (left - 1) first) where
  one_less : left ≡ suc (left - 1)
  one_less = omega (arith, some_left)

  pub tail_low : {m : ℕ} {r : Tail} → first ≡ Some m → r ≡ prefixed 0 first → IsTail next s left r
  unfolding on
  tail_low {m} e f = rw (one_less, f, e) (low next s (left - 1) m (rw (zero-leads, e) at w))

  pub tail_high : {o : ℕ} {second r : Tail} → first ≡ None → o ≡ get_or next (2 * s + 1) 0 → IsTail next o (left - 1) second → r ≡ prefixed 1 second → IsTail next s left r
  unfolding on
  tail_high {o} {second} e g v f = rw (one_less, f) (high next s (left - 1) second (rw (zero-leads, e) at w) (rw g at v))

-- a tail of at most three inputs
pub short_three : (n : ℕ) (r : Tail) → n ≤ 3 → Short n r → Short 3 r
short_three n None h k = tt
short_three n (Some m) h k = omega (arith, pow_mono h)

-- a branch leads on among the states
pub leads_on : {next : List ℕ} {s r : ℕ} (b : ℕ) → b < 2 → Leads next s → r ≡ get_or next (2 * s + b) 0 → Leads next r
leads_on {next} {s} b h w e = record { stays = w.stays; starts = rw e (w.stays (2 * s + b) (omega (arith, w.starts))); few = w.few }
