-- The rows of a sheet by the values in the frame's order: row by row they are what is read from left to right, and where a value is outside its limits, some
-- row has one.
-- Assumes nothing.
use Rattle.std.specs.Prelude.{◌≡◌, Bool, false, ◌&&◌, ℤ, pos, Ok, Err}
use Rattle.std.proofs.Math.Path.{refl, sym, ap, ap₂}
use Rattle.std.proofs.Common.{◌∙◌}
use Rattle.std.proofs.Math.Bool.{true, and_assoc, and-true as and_true_is}
use Rattle.std.proofs.lemmas.Bool.{false≢true}
use mathlib.Core.List.{List, [], ◌∷◌, ◌++◌, append_assoc}
use Prim.Native.Nat.{ℕ, zero, suc, ◌+◌, ◌*◌, ◌-◌, ◌≤◌, ◌<◌}
use native.Mathlib.Omega.{arith}
use Rattle.std.proofs.Math.ListN.{length, get_or, length-append, get_or-append}
use Rattle.std.proofs.Math.Seq.{get_or-append-add}
use Rattle.integers.specs.Integers.{inside}
use Rattle.lists.specs.Lists.{listed, joined, every, first_failing}
use Rattle.lists.specs.laws.Every.{every_append, every_at}
use Rattle.lists.specs.laws.First.{IsFirst, first_fails}
use Rattle.lists.specs.laws.Listed.{listed_length, listed_at, listed_ext, joined_length, joined_at}
use Rattle.lists.specs.laws.Tests.{and_both, and_true}
use Rattle.refusal.specs.declared.Refusal.TheVariants.{ValueInLine}
use Rattle.refusal.specs.Refusals.{Reply, check}
use Rattle.refusal.specs.laws.Checks.{check_is_done, fails}
use Rattle.trellis.specs.Limits.{channel_fits}
use Rattle.rows.specs.Lines.{message_bits}
use Rattle.sheet.specs.Sheet.{tail_at, message_values, tail_values, values_of, row_values, value_line}

-- ---- rows by the places of their values

abbrev pub value_at : List ℤ → ℕ → ℤ
value_at values i = get_or values i (pos 0)

-- a message row from its first value on; a tail row from its first value on, tail 2 being four places behind tail 1, systematic first
abbrev pub message_from : List ℤ → ℕ → List ℤ
message_from values at = value_at values at ∷ value_at values (at + 1) ∷ value_at values (at + 2) ∷ []

abbrev pub tail_from : List ℤ → ℕ → List ℤ
tail_from values at = value_at values at ∷ value_at values (at + 1) ∷ value_at values (at + 5) ∷ value_at values (at + 4) ∷ []

-- values one by one and in pairs, as they are tested
abbrev small : ℤ → Bool
small = inside 1023

pub one_fits : (a : ℤ) → channel_fits (a ∷ []) ≡ small a
unfolding channel_fits every
one_fits a = and_true_is (small a)

module _ (a b : ℤ) where
  pub pair_outside : (rest : List ℤ) → (small a && small b) ≡ false → channel_fits (a ∷ b ∷ rest) ≡ false
  unfolding channel_fits every
  pair_outside rest e = sym (and_assoc (small a) (small b) _) ∙ rw e refl

  pub pair_inside : (rest : List ℤ) → (small a && small b) ≡ true → channel_fits (a ∷ b ∷ rest) ≡ channel_fits rest
  unfolding channel_fits every
  pair_inside rest e = sym (and_assoc (small a) (small b) _) ∙ rw e refl

  pub pair_fits : channel_fits (a ∷ b ∷ []) ≡ (small a && small b)
  unfolding channel_fits every
  pair_fits = ap (λ (t : Bool). small a && t) (and_true_is (small b))

-- k message rows and two tail rows
unfoldable pub rows_in : ℕ → List ℤ → List (List ℤ)
rows_in k values = listed (λ i. message_from values (3 * i)) k ++ listed (λ j. tail_from values (3 * k + 2 * j)) 2

unfoldable pub values_reply : ℕ → List ℤ → Reply
values_reply k values = check (channel_fits values) (ValueInLine (first_failing channel_fits (rows_in k values) + 2))

module _ (k : ℕ) (values : List ℤ) where
  pub rows_long : length (rows_in k values) ≡ k + 2
  unfolding rows_in
  rows_long = length-append (listed (λ i. message_from values (3 * i)) k) _ ∙ ap₂ ◌+◌ (listed_length _ k) (listed_length _ 2)

  pub message_row_lem : (i : ℕ) → i < k → get_or (rows_in k values) i [] ≡ message_from values (3 * i)
  unfolding rows_in
  message_row_lem i h =
      get_or-append (listed (λ i. message_from values (3 * i)) k) _ [] i (omega (arith, listed_length (λ i. message_from values (3 * i)) k))
      ∙ listed_at _ k i [] h

  pub tail_row_lem : (i : ℕ) → k ≤ i → i < k + 2 → get_or (rows_in k values) i [] ≡ tail_from values (3 * k + 2 * (i - k))
  unfolding rows_in
  tail_row_lem i h l =
      let messages = listed (λ i. message_from values (3 * i)) k in
      let place : i ≡ length messages + (i - k) = omega (arith, listed_length (λ i. message_from values (3 * i)) k) in
      ap (λ (n : ℕ). get_or (messages ++ listed (λ j. tail_from values (3 * k + 2 * j)) 2) n []) place
      ∙ get_or-append-add messages _ (i - k) []
      ∙ listed_at _ 2 (i - k) [] (omega arith)

  pub values_refused : channel_fits values ≡ false → Err (ValueInLine (first_failing channel_fits (rows_in k values) + 2)) ≡ values_reply k values
  unfolding values_reply
  values_refused e = fails e

  pub values_done : channel_fits values ≡ true → values_reply k values ≡ Ok tt
  unfolding values_reply
  values_done e = (check_is_done _ _).1 e

-- ---- they are the sheet's

module _ (sheet : List ℕ) where
  abbrev k : ℕ
  k = message_bits sheet

  abbrev first_tail : ℕ → List ℤ
  first_tail j = (tail_at sheet j).sys ∷ (tail_at sheet j).par ∷ []

  abbrev second_tail : ℕ → List ℤ
  second_tail j = (tail_at sheet j).sys2 ∷ (tail_at sheet j).par2 ∷ []

  abbrev messages : List ℤ
  messages = joined (message_values sheet) k

  abbrev tails : List ℤ
  tails = joined first_tail 2 ++ joined second_tail 2

  values_are : values_of sheet ≡ messages ++ tails
  unfolding values_of
  values_are = append_assoc messages (joined first_tail 2) (joined second_tail 2)

  messages_long : length messages ≡ 3 * k
  messages_long = joined_length (message_values sheet) 3 (λ i. refl) k

  message_value : (i j : ℕ) → i < k → j < 3 → value_at (values_of sheet) (3 * i + j) ≡ value_at (message_values sheet i) j
  message_value i j h l =
      ap (λ (values : List ℤ). value_at values (3 * i + j)) values_are
      ∙ get_or-append messages tails (pos 0) (3 * i + j) (omega (arith, messages_long))
      ∙ joined_at (message_values sheet) 3 (λ i. refl) k i j (pos 0) h l

  tail_value : (j : ℕ) → value_at (values_of sheet) (3 * k + j) ≡ value_at tails j
  tail_value j =
      let place : 3 * k + j ≡ length messages + j = omega (arith, messages_long) in
      ap₂ value_at values_are place ∙ get_or-append-add messages tails j (pos 0)

  message_is : (i : ℕ) → i < k → message_from (values_of sheet) (3 * i) ≡ message_values sheet i
  message_is i h =
      let zeroth : 3 * i ≡ 3 * i + 0 = omega arith in
      rw (ap (value_at (values_of sheet)) zeroth ∙ message_value i 0 h (omega arith), message_value i 1 h (omega arith), message_value i 2 h (omega arith)) refl

  -- the value m places behind the first of tail row j
  tail_at_lem : (j m n : ℕ) → 2 * j + m ≡ n → value_at (values_of sheet) (3 * k + 2 * j + m) ≡ value_at tails n
  tail_at_lem j m n e = let place : 3 * k + 2 * j + m ≡ 3 * k + n = omega arith in ap (value_at (values_of sheet)) place ∙ tail_value n

  tail_is : (j : ℕ) → j < 2 → tail_from (values_of sheet) (3 * k + 2 * j) ≡ tail_values sheet j
  unfolding joined
  tail_is zero h =
      let zeroth : 3 * k + 2 * 0 ≡ 3 * k + 2 * 0 + 0 = omega arith in
      rw (ap (value_at (values_of sheet)) zeroth ∙ tail_at_lem 0 0 0 refl, tail_at_lem 0 1 1 refl, tail_at_lem 0 5 5 refl, tail_at_lem 0 4 4 refl) refl
  tail_is (suc zero) h =
      let zeroth : 3 * k + 2 * 1 ≡ 3 * k + 2 * 1 + 0 = omega arith in
      rw (ap (value_at (values_of sheet)) zeroth ∙ tail_at_lem 1 0 2 refl, tail_at_lem 1 1 3 refl, tail_at_lem 1 5 7 refl, tail_at_lem 1 4 6 refl) refl
  tail_is (suc (suc j)) h = absurd (omega arith)

  rows_are : rows_in k (values_of sheet) ≡ row_values sheet
  unfolding rows_in row_values
  rows_are = ap₂ ◌++◌ (listed_ext _ _ k message_is) (listed_ext _ _ 2 tail_is)

  pub values_reply_is : values_reply k (values_of sheet) ≡ check (channel_fits (values_of sheet)) (ValueInLine (value_line sheet))
  unfolding values_reply value_line
  values_reply_is = ap (λ (rows : List (List ℤ)). check (channel_fits (values_of sheet)) (ValueInLine (first_failing channel_fits rows + 2))) rows_are

  -- ---- where a value is outside its limits, a row has one

  joined_small : (f : ℕ → List ℤ) (n : ℕ) → ((i : ℕ) → i < n → every small (f i) ≡ true) → every small (joined f n) ≡ true
  unfolding joined every
  joined_small f zero h = refl
  joined_small f (suc n) h = every_append small (joined f n) (f n) (joined_small f n (λ i l. h i (omega arith))) (h n (omega arith))

  pub rows_count : length (row_values sheet) ≡ k + 2
  rows_count = ap length (sym rows_are) ∙ rows_long k (values_of sheet)

  module _ (fit : every channel_fits (row_values sheet) ≡ true) where
    row_fits : (i : ℕ) → i < k + 2 → channel_fits (get_or (rows_in k (values_of sheet)) i []) ≡ true
    row_fits i h = rw rows_are (every_at channel_fits [] (row_values sheet) fit i (omega (arith, rows_count)))

    message_fits : (i : ℕ) → i < k → every small (message_values sheet i) ≡ true
    unfolding channel_fits
    message_fits i h = ap channel_fits (sym (message_row_lem k (values_of sheet) i h ∙ message_is i h)) ∙ row_fits i (omega arith)

    tail_fits : (j : ℕ) → j < 2 → every small (tail_values sheet j) ≡ true
    unfolding channel_fits
    tail_fits j h =
        let row : k + j - k ≡ j = omega arith in
        let is = tail_row_lem k (values_of sheet) (k + j) (omega arith) (omega arith) ∙ ap (λ (n : ℕ). tail_from (values_of sheet) (3 * k + 2 * n)) row ∙ tail_is j h in
        ap channel_fits (sym is) ∙ row_fits (k + j) (omega arith)

    -- the four tests of a tail row, two for each tail
    parted : (a b c d : ℤ) → every small (a ∷ b ∷ c ∷ d ∷ []) ≡ true → (every small (a ∷ b ∷ []) ≡ true) × (every small (d ∷ c ∷ []) ≡ true)
    unfolding every
    parted a b c d e =
        let (at_a, from-b) = and_both (small a) _ e in
        let (at_b, from-c) = and_both (small b) _ from-b in
        let (at_c, from-d) = and_both (small c) _ from-c in
        let (at-d, end) = and_both (small d) true from-d in
        (and_true at_a (and_true at_b refl), and_true at-d (and_true at_c refl))

    values_fit : channel_fits (values_of sheet) ≡ true
    unfolding channel_fits
    values_fit =
        ap channel_fits values_are
        ∙ every_append small messages tails (joined_small (message_values sheet) k message_fits)
        (every_append small (joined first_tail 2) (joined second_tail 2)
        (joined_small first_tail 2 (λ j h. (parted _ _ _ _ (tail_fits j h)).0))
        (joined_small second_tail 2 (λ j h. (parted _ _ _ _ (tail_fits j h)).1)))

  -- so the line told is that of a row with such a value, and no row before it has one
  pub value_line_first : channel_fits (values_of sheet) ≡ false → IsFirst channel_fits [] (row_values sheet) (first_failing channel_fits (row_values sheet))
  value_line_first e = first_fails channel_fits [] (row_values sheet) (go (every channel_fits (row_values sheet)) refl)
    where
      go : (t : Bool) → every channel_fits (row_values sheet) ≡ t → every channel_fits (row_values sheet) ≡ false
      go true fit = absurd (false≢true (sym e ∙ values_fit fit))
      go false fit = fit
