-- The rows of a sheet (document 01, "Sheet"): what a message row and a tail row hold, and which text is one.
-- Assumes nothing.
use Rattle.std.specs.Prelude.{Bool, false, cond, ◌&&◌, List, [], ℕ, eqb, ℤ, length, get_or}
use Rattle.std.proofs.Math.Option.{Option, none, some, map, Option-elim, bind}
use Rattle.text.specs.Text.{bytes, space, cut, same}
use Rattle.text.specs.Decimal.{natural, integer}

-- a message row: `to` is pattern(at), and the other three are values or unsent
pub record MessageRow : Type 0 where
  pub to : ℕ
  pub sys : Option ℤ
  pub par : Option ℤ
  pub par2 : Option ℤ

-- a tail row: `sys` and `par` are tail 1, `sys2` and `par2` tail 2, all four values
pub record TailRow : Type 0 where
  pub sys : ℤ
  pub par : ℤ
  pub par2 : ℤ
  pub sys2 : ℤ

-- ---- fields

-- the fields of a line are parted by one space; field i, in the order at to sys par par2 sys2
unfoldable pub field_at : List ℕ → ℕ → List ℕ
field_at line i = get_or (cut space line) i []

-- `-` stands for unsent, and under `to` and `sys2` for nothing
unfoldable pub dash : List ℕ → Bool
dash field = same field (bytes "-")

-- a value, or `-` for unsent
unfoldable pub value_or_unsent : List ℕ → Option (Option ℤ)
value_or_unsent field = cond (dash field) (some none) (map (λ z. some z) (integer field))

-- there are six fields, and the first is the row's number
unfoldable pub starts : ℕ → List ℕ → Bool
starts k line = eqb (length (cut space line)) 6 && Option-elim (natural (field_at line 0)) false (λ n. eqb n k)

-- ---- rows

-- row k as a message row: `sys2` is `-`
unfoldable pub message_row : ℕ → List ℕ → Option MessageRow
message_row k line =
    cond (starts k line && dash (field_at line 5))
    (bind (natural (field_at line 1)) (λ to.
    bind (value_or_unsent (field_at line 2)) (λ sys.
    bind (value_or_unsent (field_at line 3)) (λ par.
    map (λ par2. record { to = to; sys = sys; par = par; par2 = par2 }) (value_or_unsent (field_at line 4))))))
    none

-- row k as a tail row: `to` is `-`
unfoldable pub tail_row : ℕ → List ℕ → Option TailRow
tail_row k line =
    cond (starts k line && dash (field_at line 1))
    (bind (integer (field_at line 2)) (λ sys.
    bind (integer (field_at line 3)) (λ par.
    bind (integer (field_at line 4)) (λ par2.
    map (λ sys2. record { sys = sys; par = par; par2 = par2; sys2 = sys2 }) (integer (field_at line 5))))))
    none
