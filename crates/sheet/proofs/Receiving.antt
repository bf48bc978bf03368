-- What stands for a row that is none, and the lines of the rows as they are split off.
-- Assumes nothing.
use Rattle.std.specs.Prelude.{◌≡◌, List, [], ◌++◌, ℕ, ◌+◌, ◌*◌, ◌≤◌, ◌<◌, eqb, ℤ, pos, set, length, get_or, take, drop, Option, Some, None}
use Rattle.std.specs.List.{slice_split, enumerate_from}
use Rattle.std.proofs.Common.{sym, ap, ap₂, ◌∙◌, arith, length-drop, length-take-le, get_or-drop}
use Rattle.std.proofs.lemmas.List.{get_or_default, get_or-take}
use Rattle.std.proofs.lemmas.List.FromFn.{get_or-enumerate_from, length-enumerate_from}
use Rattle.lists.specs.Lists.{joined}
use Rattle.lists.specs.laws.Listed.{joined_more}
use Rattle.lists.specs.laws.Stores.{Filled, filled_more}
use Rattle.text.specs.Text.{cut}
use Rattle.rows.proofs.Cutting.{split_cut}
use Rattle.std.specs.Option.{UnwrapsOrElse}
use Rattle.rows.specs.declared.Message.{Message}
use Rattle.rows.specs.declared.Tail.{Tail}
use Rattle.rows.specs.Lent.{message_or_zeros, tail_or_zeros}

pub message_zeros : (m : Message) → m.to ≡ 0 → m.sys ≡ pos 0 → m.par ≡ pos 0 → m.par2 ≡ pos 0 → m ≡ message_or_zeros None
message_zeros m a b c d =
    ap (λ x. record { to = x; sys = m.sys; par = m.par; par2 = m.par2 }) a
    ∙ ap (λ x. record { to = 0; sys = x; par = m.par; par2 = m.par2 }) b
    ∙ ap (λ x. record { to = 0; sys = pos 0; par = x; par2 = m.par2 }) c
    ∙ ap (λ x. record { to = 0; sys = pos 0; par = pos 0; par2 = x }) d

pub tail_zeros : (t : Tail) → t.sys ≡ pos 0 → t.par ≡ pos 0 → t.par2 ≡ pos 0 → t.sys2 ≡ pos 0 → t ≡ tail_or_zeros None
tail_zeros t a b c d =
    ap (λ x. record { sys = x; par = t.par; par2 = t.par2; sys2 = t.sys2 }) a
    ∙ ap (λ x. record { sys = pos 0; par = x; par2 = t.par2; sys2 = t.sys2 }) b
    ∙ ap (λ x. record { sys = pos 0; par = pos 0; par2 = x; sys2 = t.sys2 }) c
    ∙ ap (λ x. record { sys = pos 0; par = pos 0; par2 = pos 0; sys2 = x }) d

pub message_unwrapped : (zeros : Message → Type 0) (o : Option Message) (m : Message) → UnwrapsOrElse o zeros m → ((n : Message) → zeros n → n ≡ message_or_zeros None)
    → m ≡ message_or_zeros o
message_unwrapped zeros None m u z = z m u
message_unwrapped zeros (Some n) m u z = u

pub tail_unwrapped : (zeros : Tail → Type 0) (o : Option Tail) (t : Tail) → UnwrapsOrElse o zeros t → ((n : Tail) → zeros n → n ≡ tail_or_zeros None)
    → t ≡ tail_or_zeros o
tail_unwrapped zeros None t u z = z t u
tail_unwrapped zeros (Some n) t u z = u

-- ---- rows

-- the lines of the rows: those after the header
abbrev pub row_lines : List ℕ → ℕ → List (List ℕ)
row_lines sheet rows = take rows (drop 1 (slice_split (λ b. eqb b 10) sheet))

pub row_lines_are : (sheet : List ℕ) (rows : ℕ) → row_lines sheet rows ≡ take rows (drop 1 (cut 10 sheet))
row_lines_are sheet rows = ap (λ ps. take rows (drop 1 ps)) (split_cut 10 sheet)

module _ (sheet : List ℕ) (rows : ℕ) (long : rows + 1 ≤ length (cut 10 sheet)) where
  pub rows_many : length (row_lines sheet rows) ≡ rows
  rows_many = ap length (row_lines_are sheet rows) ∙ length-take-le rows (drop 1 (cut 10 sheet)) (omega (arith, length-drop 1 (cut 10 sheet)))

  pub record RowRead (n k : ℕ) (line : List ℕ) : Type 0 where
    pub number : k ≡ n
    pub line_lem : line ≡ get_or (cut 10 sheet) (k + 1) []
    pub within : n < rows

  pub row_read : (n k : ℕ) (line : List ℕ)
      → (n < length (enumerate_from 0 (row_lines sheet rows))) × ((k, line) ≡ get_or (enumerate_from 0 (row_lines sheet rows)) n (k, line))
      → RowRead n k line
  row_read n k line turn =
      let within : n < rows = omega (arith, turn.0, length-enumerate_from 0 (row_lines sheet rows), rows_many) in
      let inside : n < length (row_lines sheet rows) = omega (arith, rows_many) in
      let at = turn.1 ∙ get_or-enumerate_from 0 (row_lines sheet rows) n (k, line) inside in
      let number : k ≡ n = ap (λ p. p.0) at ∙ omega arith in
      let is : line ≡ get_or (row_lines sheet rows) n [] = ap (λ p. p.1) at ∙ get_or_default (row_lines sheet rows) n line [] inside in
      let place : 1 + n ≡ k + 1 = omega (arith, number) in
      let here = get_or-take rows (drop 1 (cut 10 sheet)) n [] within ∙ get_or-drop 1 (cut 10 sheet) n [] ∙ ap (λ i. get_or (cut 10 sheet) i []) place in
      record { number = number; line_lem = is ∙ ap (λ ls. get_or ls n []) (row_lines_are sheet rows) ∙ here; within = within }

-- ---- one row more

pub named_more : (f : ℕ → ℕ) (xs : List ℕ) (n k v : ℕ) → k ≡ n → n < length xs → v ≡ f k → Filled 0 f xs n → Filled 0 f (set xs k v) (n + 1)
named_more f xs n k v same h e filled = rw same (filled_more h (e ∙ ap f same) filled)

pub valued_more : (f : ℕ → List ℤ) (old new vs : List ℤ) (n k : ℕ) → k ≡ n → take (3 * k + 3) new ≡ take (3 * k) old ++ vs → vs ≡ f k
    → take (3 * n) old ≡ joined f n → take (3 * (n + 1)) new ≡ joined f (n + 1)
valued_more f old new vs n k same put e so_far =
    let more : 3 * (n + 1) ≡ 3 * n + 3 = omega arith in
    ap (λ m. take m new) more ∙ (rw same at put) ∙ ap₂ ◌++◌ so_far (e ∙ ap f same) ∙ sym (joined_more f n)
