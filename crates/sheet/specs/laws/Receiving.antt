-- The values of a sheet by its rows: those of the message rows, then the tails'.
-- Assumes nothing.
use Rattle.std.specs.Prelude.{◌≡◌, refl, List, [], ◌∷◌, ◌++◌, ℕ, suc, ◌+◌, ◌≤◌, ◌<◌, ℤ, pos, length, get_or, take, set}
use Rattle.std.proofs.Common.{sym, ap, ◌∙◌, append_assoc, add-zero, add-one, arith, length-set, take-suc-set}
use Rattle.std.proofs.Math.Option
use Rattle.std.proofs.Math.Option.{Option, none, some}
use Rattle.lists.specs.Lists.{joined}
use Rattle.text.specs.Text.{cut}
use Rattle.rows.specs.declared.Message.{Message}
use Rattle.rows.specs.declared.Tail.{Tail}
use Rattle.rows.specs.Rows.{MessageRow, TailRow, message_row, tail_row}
use Rattle.rows.specs.Lines.{lines_of, message_bits}
use Rattle.rows.specs.Lent.{received_value, message_shown, message_or_zeros, tail_shown, tail_or_zeros, tail_in}
use Rattle.rows.specs.laws.Pieces.{front_at}
use Rattle.sheet.specs.Sheet.{message_at, tail_at, message_values, values_of}

-- the values of both tails, from the two tail rows
abbrev pub both_tails : Tail → Tail → List ℤ
both_tails a b = a.sys ∷ a.par ∷ b.sys ∷ b.par ∷ a.sys2 ∷ a.par2 ∷ b.sys2 ∷ b.par2 ∷ []

-- the values of every place, K being k
unfoldable pub values_to : List ℕ → ℕ → List ℤ
values_to sheet k = joined (message_values sheet) k ++ both_tails (tail_or_zeros (tail_in sheet k)) (tail_or_zeros (tail_in sheet (k + 1)))

-- ---- stores one after the other

one_store : {A : Type 0} (l : List A) (at : ℕ) (a : A) → at < length l → take (at + 1) (set l at a) ≡ take at l ++ (a ∷ [])
one_store l at a h = rw add-one (take-suc-set l at a h)

pub two_stores : {A : Type 0} (l : List A) (at : ℕ) (a b : A) → at + 2 ≤ length l →
    take (at + 2) (set (set l at a) (at + 1) b) ≡ take at l ++ (a ∷ b ∷ [])
two_stores {A} l at a b h =
    let e : at + 2 ≡ at + 1 + 1 = omega arith in
    ap (λ (n : ℕ). take n (set (set l at a) (at + 1) b)) e
    ∙ one_store (set l at a) (at + 1) b (rw (length-set l at a) (omega arith))
    ∙ ap (λ (x : List A). x ++ (b ∷ [])) (one_store l at a (omega arith))
    ∙ append_assoc (take at l) (a ∷ []) (b ∷ [])

pub three_stores : {A : Type 0} (l : List A) (at : ℕ) (a b c : A) → at + 3 ≤ length l →
    take (at + 3) (set (set (set l at a) (at + 1) b) (at + 2) c) ≡ take at l ++ (a ∷ b ∷ c ∷ [])
three_stores {A} l at a b c h =
    let e : at + 3 ≡ at + 2 + 1 = omega arith in
    ap (λ (n : ℕ). take n (set (set (set l at a) (at + 1) b) (at + 2) c)) e
    ∙ one_store (set (set l at a) (at + 1) b) (at + 2) c (simp length-set (omega arith))
    ∙ ap (λ (x : List A). x ++ (c ∷ [])) (two_stores l at a b (omega arith))
    ∙ append_assoc (take at l) (a ∷ b ∷ []) (c ∷ [])

pub four_pairs : (l : List ℤ) (a b c d e f g h : ℤ) →
    l ++ (a ∷ b ∷ []) ++ (c ∷ d ∷ []) ++ (e ∷ f ∷ []) ++ (g ∷ h ∷ []) ≡ l ++ (a ∷ b ∷ c ∷ d ∷ e ∷ f ∷ g ∷ h ∷ [])
four_pairs l a b c d e f g h = simp append_assoc

-- ---- rows

pub row_line : (sheet : List ℕ) (k n : ℕ) → length (cut 10 sheet) ≡ n + 4 → k < n + 2 → get_or (cut 10 sheet) (k + 1) [] ≡ get_or (lines_of sheet) (suc k) []
unfolding lines_of
row_line sheet k n long h = rw (← add-one k) (sym (front_at (cut 10 sheet) (k + 1) [] (omega arith)))

-- what a message row that is read says
pub record MessageRead (sheet : List ℕ) (k : ℕ) (m : Message) : Type 0 where
  pub to_is : m.to ≡ (message_at sheet k).to
  pub values_are : (m.sys ∷ m.par ∷ m.par2 ∷ []) ≡ message_values sheet k

message_shown_lem : (o : Option MessageRow) →
    let m = Option.get_or o (record { to = 0; sys = none; par = none; par2 = none }) in
    ((message_or_zeros (message_shown o)).to ≡ m.to)
    × (((message_or_zeros (message_shown o)).sys ∷ (message_or_zeros (message_shown o)).par ∷ (message_or_zeros (message_shown o)).par2 ∷ []) ≡ (received_value m.sys ∷ received_value m.par ∷ received_value m.par2 ∷ []))
unfolding message_shown
message_shown_lem none = (refl, refl)
message_shown_lem (some m) = (refl, refl)

pub message_read : (sheet line : List ℕ) (k n : ℕ) (m : Message) → length (cut 10 sheet) ≡ n + 4 → k < n →
    line ≡ get_or (cut 10 sheet) (k + 1) [] → m ≡ message_or_zeros (message_shown (message_row k line)) → MessageRead sheet k m
unfolding message_at
message_read sheet line k n m long h e f =
    let row = message_row k (get_or (lines_of sheet) (suc k) []) in
    let g : m ≡ message_or_zeros (message_shown row) = f ∙ ap (λ (l : List ℕ). message_or_zeros (message_shown (message_row k l))) (e ∙ row_line sheet k n long (omega arith)) in
    record { to_is = rw g (message_shown_lem row).0; values_are = rw g (message_shown_lem row).1 }

tail_shown_lem : (o : Option TailRow) →
    let t = Option.get_or o (record { sys = pos 0; par = pos 0; par2 = pos 0; sys2 = pos 0 }) in
    ((tail_or_zeros (tail_shown o)).sys ≡ t.sys) × ((tail_or_zeros (tail_shown o)).par ≡ t.par) × ((tail_or_zeros (tail_shown o)).par2 ≡ t.par2) × ((tail_or_zeros (tail_shown o)).sys2 ≡ t.sys2)
unfolding tail_shown
tail_shown_lem none = (refl, refl, refl, refl)
tail_shown_lem (some t) = (refl, refl, refl, refl)

tail_in_lem : (sheet : List ℕ) (j : ℕ) → length (cut 10 sheet) ≡ message_bits sheet + 4 → j < 2 →
    ((tail_or_zeros (tail_in sheet (message_bits sheet + j))).sys ≡ (tail_at sheet j).sys) × ((tail_or_zeros (tail_in sheet (message_bits sheet + j))).par ≡ (tail_at sheet j).par)
    × ((tail_or_zeros (tail_in sheet (message_bits sheet + j))).par2 ≡ (tail_at sheet j).par2) × ((tail_or_zeros (tail_in sheet (message_bits sheet + j))).sys2 ≡ (tail_at sheet j).sys2)
unfolding tail_in tail_at
tail_in_lem sheet j long h =
    rw (row_line sheet (message_bits sheet + j) (message_bits sheet) long (omega arith))
    (tail_shown_lem (tail_row (message_bits sheet + j) (get_or (lines_of sheet) (suc (message_bits sheet + j)) [])))

pub values_all : (sheet : List ℕ) → length (cut 10 sheet) ≡ message_bits sheet + 4 → values_to sheet (message_bits sheet) ≡ values_of sheet
unfolding values_to values_of joined
values_all sheet long =
    let (s0, p0, q0, r0) = rw (add-zero (message_bits sheet)) at (tail_in_lem sheet 0 long (omega arith)) in
    let (s1, p1, q1, r1) = tail_in_lem sheet 1 long (omega arith) in
    rw (s0, p0, q0, r0, s1, p1, q1, r1) (sym (append_assoc (joined (message_values sheet) (message_bits sheet)) _ _))
