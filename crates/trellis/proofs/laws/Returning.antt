-- Tables that lead back: from every state some n inputs lead to state 0. With n sections more, every position before them has a path with either bit, so
-- none is forced. An open end needs no way back.
-- Assumes nothing.
use Rattle.std.specs.Prelude.{◌≡◌, Bool, true, ℕ, zero, suc, ◌+◌, ◌-◌, ◌<◌, length, set, replicate}
use Rattle.std.proofs.Math.Path.{refl, ap₂}
use Rattle.std.proofs.Common.{sym, ◌∙◌, arith, length-append, get_or-append-add, get_or-set_other}
use Rattle.std.proofs.Math.Bool.{false, ◌||◌}
use Rattle.std.proofs.lemmas.Bool.{false≢true}
use mathlib.Core.List.{List, [], ◌∷◌, ◌++◌}
use Rattle.std.proofs.Math.Decide.{ℕ_discrete, dec_lt}
use Rattle.std.proofs.Math.ListN.{get_or, length-set, length-replicate, get_or-append}
use Rattle.std.proofs.Math.Seq.{get_or-set_same}
use Rattle.lists.specs.Lists.{is_empty, any, upto}
use Rattle.lists.specs.laws.Every.{any_upto_at}
use Rattle.lists.specs.laws.Keep.{not_empty}
use Rattle.trellis.specs.declared.End.{End}
use Rattle.trellis.specs.declared.End.TheVariants.{Zero, Open}
use Rattle.trellis.specs.Table.{Table, next_state}
use Rattle.trellis.specs.Path.{TrellisPath, finish, paths, class}
use Rattle.trellis.specs.Outcome.{pathless, forced}
use Rattle.trellis.specs.Best.{IsBits, IsTerminating, IsPath, InClass}
use Rattle.trellis.proofs.laws.Listing.{paths_are, class_is}

-- ---- inputs one after the other

pub finish_append : (t : Table) (s : ℕ) (xs ys : List ℕ) → finish t s (xs ++ ys) ≡ finish t (finish t s xs) ys
unfolding finish
finish_append t s [] ys = refl
finish_append t s (x ∷ xs) ys = finish_append t (next_state t s x) xs ys

pub bits_append : {m n : ℕ} {xs ys : List ℕ} → IsBits m xs → IsBits n ys → IsBits (m + n) (xs ++ ys)
bits_append {m} {n} {xs} {ys} v w = record { size = length-append xs ys ∙ ap₂ ◌+◌ v.size w.size; bit = bit }
  where
    bit : (k : ℕ) → get_or (xs ++ ys) k 0 < 2
    bit k = elim (dec_lt k (length xs)) [
      | yes h ↦ rw (get_or-append xs ys 0 k h) (v.bit k)
      | no h ↦ let e : k ≡ length xs + (k - length xs) = omega arith in rw (e, get_or-append-add xs ys (k - length xs) 0) (w.bit (k - length xs))
    ]

-- ---- k bits: all 0, and with bit b at j

zero_bits : (k : ℕ) → IsBits k (replicate k 0)
zero_bits k = record { size = length-replicate k 0; bit = below k }
  where
    below : (n i : ℕ) → get_or (replicate n 0) i 0 < 2
    below zero i = omega arith
    below (suc n) zero = omega arith
    below (suc n) (suc i) = below n i

module _ (k j b : ℕ) (inside : j < k) (bit : b < 2) where
  chosen : List ℕ
  chosen = set (replicate k 0) j b

  chosen_at : get_or chosen j 0 ≡ b
  unfolding chosen
  chosen_at = get_or-set_same (replicate k 0) j b 0 (omega (arith, length-replicate {A = ℕ} k 0))

  chosen_bits : IsBits k chosen
  unfolding chosen
  chosen_bits = record { size = length-set (replicate k 0) j b ∙ length-replicate k 0; bit = below }
    where
      below : (i : ℕ) → get_or (set (replicate k 0) j b) i 0 < 2
      below i = elim (ℕ_discrete i j) [
        | yes q ↦ rw (q, chosen_at) bit
        | no q ↦ rw (get_or-set_other (replicate k 0) j i b 0 q) ((zero_bits k).bit i)
      ]

-- ---- positions that are not forced

module _ (t : Table) (end : End) (n : ℕ) where
  -- a path in each class
  free : (k : ℕ) → ((b : ℕ) → b < 2 → (p : TrellisPath) × InClass t end n k b p) → forced t end n k ≡ false
  unfolding forced
  free k has = ap₂ ◌||◌ (either 0 (omega arith)) (either 1 (omega arith))
    where
      either : (b : ℕ) → b < 2 → is_empty (class t end n k b) ≡ false
      either b bit = let (p, h) = has b bit in not_empty (class t end n k b) p ((class_is t end n k b p).1 h)

  none_forced : (k : ℕ) → ((j : ℕ) → j < k → forced t end n j ≡ false) → any (forced t end n) (upto k) ≡ false
  none_forced k h = go (any (forced t end n) (upto k)) refl
    where
      go : (b : Bool) → any (forced t end n) (upto k) ≡ b → b ≡ false
      go true e = let (j, inside, is-forced) = any_upto_at (forced t end n) k e in absurd (false≢true (sym (h j inside) ∙ is-forced))
      go false e = refl

-- ---- a table that leads back

pub record LeadsBack (t : Table) (n : ℕ) : Type 0 where
  pub some_state : 0 < t.states
  pub stays : (s b : ℕ) → s < t.states → b < 2 → next_state t s b < t.states
  pub way : ℕ → List ℕ
  pub leads : (s : ℕ) → s < t.states → IsTerminating t s n (way s)

module _ (t : Table) (n : ℕ) (w : LeadsBack t n) where
  -- inputs lead from state to state
  stays_along : (s : ℕ) (p : List ℕ) → s < t.states → ((i : ℕ) → get_or p i 0 < 2) → finish t s p < t.states
  unfolding finish
  stays_along s [] state bits = state
  stays_along s (b ∷ p) state bits = stays_along (next_state t s b) p (w.stays s b state (bits 0)) (λ i. bits (suc i))

  pub ends_in_state : {k : ℕ} (p : List ℕ) → IsBits k p → finish t 0 p < t.states
  ends_in_state p bits = stays_along 0 p w.some_state bits.bit

  -- k bits and their way back are a path
  whole : List ℕ → TrellisPath
  whole p = record { start = 0; bits = p ++ w.way (finish t 0 p) }

  whole_path : (k : ℕ) (p : List ℕ) → IsBits k p → IsPath t Zero (k + n) (whole p)
  unfolding whole
  whole_path k p bits =
      let back = w.leads (finish t 0 p) (ends_in_state p bits) in
      record { start = w.some_state; bits = bits_append bits back.bits; ends = (refl, finish_append t 0 p (w.way (finish t 0 p)) ∙ back.ends) }

  has_class : (k j b : ℕ) (inside : j < k) (bit : b < 2) → InClass t Zero (k + n) j b (whole (chosen k j b inside bit))
  unfolding whole
  has_class k j b inside bit =
      let p = chosen k j b inside bit in
      let bits = chosen_bits k j b inside bit in
      record {
        path = whole_path k p bits;
        bit = get_or-append p (w.way (finish t 0 p)) 0 j (omega (arith, bits.size)) ∙ chosen_at k j b inside bit;
      }

  -- ---- so there is a path, and no position before the way back is forced

  pub back_has_path : (k : ℕ) → pathless t Zero (k + n) ≡ false
  unfolding pathless
  back_has_path k = not_empty (paths t Zero (k + n)) _ ((paths_are t Zero (k + n) _).1 (whole_path k (replicate k 0) (zero_bits k)))

  back_free : (k j : ℕ) → j < k → forced t Zero (k + n) j ≡ false
  back_free k j inside =
      free t Zero (k + n) j (λ b bit. (whole (chosen k j b inside bit), has_class k j b inside bit))

  pub back_none_forced : (k : ℕ) → any (forced t Zero (k + n)) (upto k) ≡ false
  back_none_forced k = none_forced t Zero (k + n) k (back_free k)

-- ---- an open end: every list of bits is a path, so there is one and no position is forced

module _ (t : Table) (some_state : 0 < t.states) where
  opened : List ℕ → TrellisPath
  opened p = record { start = 0; bits = p }

  open_path : (n : ℕ) (p : List ℕ) → IsBits n p → IsPath t Open n (opened p)
  unfolding opened
  open_path n p bits = record { start = some_state; bits = bits; ends = refl }

  pub open_has_path : (n : ℕ) → pathless t Open n ≡ false
  unfolding pathless
  open_has_path n = not_empty (paths t Open n) _ ((paths_are t Open n _).1 (open_path n (replicate n 0) (zero_bits n)))

  open_free : (n k : ℕ) → k < n → forced t Open n k ≡ false
  unfolding opened
  open_free n k inside =
      free t Open n k
      (λ b bit.
      (opened (chosen n k b inside bit), record { path = open_path n _ (chosen_bits n k b inside bit); bit = chosen_at n k b inside bit }))

  pub open_none_forced : (n : ℕ) → any (forced t Open n) (upto n) ≡ false
  open_none_forced n = none_forced t Open n n (open_free n)
