-- A row by its fields, one after the other, as it is read; and which lines keep the rules.
-- Assumes nothing.
use Rattle.std.specs.Prelude as std
use Rattle.std.specs.Option.{is_some}
use Rattle.std.specs.Prelude.{◌≡◌, refl, Bool, true, false, cond, ◌&&◌, List, [], ℕ, zero, suc, ◌-◌, ◌≤◌, ◌<◌, ℤ}
use Rattle.std.proofs.Math.Option.{Option, none, some, map, bind}
use Rattle.std.proofs.Common.{arith, lt-ltb, le-ltb}
use Rattle.lists.specs.Lists.{found}
use Rattle.text.specs.Text.{cut}
use Rattle.text.specs.Decimal.{natural, integer}
use Rattle.rows.specs.declared.Message.{Message}
use Rattle.rows.specs.declared.Tail.{Tail}
use Rattle.rows.specs.Lines.{line_fits}
use Rattle.rows.specs.Rows.{MessageRow, TailRow, field_at, dash, value_or_unsent, starts, message_row, tail_row}
use Rattle.rows.specs.Lent.{received_value, no_message, a_message, message_shown, no_tail, a_tail, tail_shown}

-- a value that is sent is received as it is
pub received_sent : (o : Option ℤ) → o ≡ map received_value (map (λ z. some z) o)
received_sent none = refl
received_sent (some z) = refl

-- ---- message rows

-- by the tests and the fields, in the order in which they are read
unfoldable pub message_by : Bool → Bool → Option ℕ → Option ℤ → Option ℤ → Option ℤ → std.Option Message
message_by false b to sys par par2 = no_message
message_by true false to sys par par2 = no_message
message_by true true none sys par par2 = no_message
message_by true true (some to) none par par2 = no_message
message_by true true (some to) (some sys) none par2 = no_message
message_by true true (some to) (some sys) (some par) none = no_message
message_by true true (some to) (some sys) (some par) (some par2) = a_message to sys par par2

abbrev message_of : ℕ → Option ℤ → Option ℤ → Option ℤ → MessageRow
message_of to sys par par2 = record { to = to; sys = sys; par = par; par2 = par2 }

message_fields : (a b : Bool) (t : Option ℕ) (s p q : Option (Option ℤ)) →
    message_by a b t (map received_value s) (map received_value p) (map received_value q)
    ≡ message_shown (cond (a && b) (bind t (λ to. bind s (λ sys. bind p (λ par. map (λ par2. message_of to sys par par2) q)))) none)
unfolding message_by message_shown bind
message_fields false b t s p q = refl
message_fields true false t s p q = refl
message_fields true true none s p q = refl
message_fields true true (some t) none p q = refl
message_fields true true (some t) (some s) none q = refl
message_fields true true (some t) (some s) (some p) none = refl
message_fields true true (some t) (some s) (some p) (some q) = refl

pub message_by_lem : (k : ℕ) (line : List ℕ) {a b : Bool} {t : Option ℕ} {s p q : Option ℤ} →
    a ≡ starts k line → b ≡ dash (field_at line 5) → t ≡ natural (field_at line 1) →
    s ≡ map received_value (value_or_unsent (field_at line 2)) →
    p ≡ map received_value (value_or_unsent (field_at line 3)) →
    q ≡ map received_value (value_or_unsent (field_at line 4)) →
    message_by a b t s p q ≡ message_shown (message_row k line)
unfolding message_row
message_by_lem k line ea eb et es ep eq = rw (ea, eb, et, es, ep, eq) (message_fields _ _ _ (value_or_unsent (field_at line 2)) (value_or_unsent (field_at line 3)) (value_or_unsent (field_at line 4)))

-- ---- tail rows

unfoldable pub tail_by : Bool → Bool → Option ℤ → Option ℤ → Option ℤ → Option ℤ → std.Option Tail
tail_by false b sys par par2 sys2 = no_tail
tail_by true false sys par par2 sys2 = no_tail
tail_by true true none par par2 sys2 = no_tail
tail_by true true (some sys) none par2 sys2 = no_tail
tail_by true true (some sys) (some par) none sys2 = no_tail
tail_by true true (some sys) (some par) (some par2) none = no_tail
tail_by true true (some sys) (some par) (some par2) (some sys2) = a_tail sys par par2 sys2

abbrev tail_of : ℤ → ℤ → ℤ → ℤ → TailRow
tail_of sys par par2 sys2 = record { sys = sys; par = par; par2 = par2; sys2 = sys2 }

tail_fields : (a b : Bool) (s p q r : Option ℤ) →
    tail_by a b s p q r
    ≡ tail_shown (cond (a && b) (bind s (λ sys. bind p (λ par. bind q (λ par2. map (λ sys2. tail_of sys par par2 sys2) r)))) none)
unfolding tail_by tail_shown bind
tail_fields false b s p q r = refl
tail_fields true false s p q r = refl
tail_fields true true none p q r = refl
tail_fields true true (some s) none q r = refl
tail_fields true true (some s) (some p) none r = refl
tail_fields true true (some s) (some p) (some q) none = refl
tail_fields true true (some s) (some p) (some q) (some r) = refl

pub tail_by_lem : (k : ℕ) (line : List ℕ) {a b : Bool} {s p q r : Option ℤ} →
    a ≡ starts k line → b ≡ dash (field_at line 1) → s ≡ integer (field_at line 2) → p ≡ integer (field_at line 3) →
    q ≡ integer (field_at line 4) → r ≡ integer (field_at line 5) →
    tail_by a b s p q r ≡ tail_shown (tail_row k line)
unfolding tail_row
tail_by_lem k line ea eb es ep eq er = rw (ea, eb, es, ep, eq, er) (tail_fields _ _ _ _ _ _)

-- no text is none
pub nothing_is_no_tail : (k : ℕ) → no_tail ≡ tail_shown (tail_row k [])
unfolding tail_shown tail_row starts cut
nothing_is_no_tail k = refl

-- ---- which lines keep the rules

message_found : (o : Option MessageRow) → is_some (message_shown o) ≡ found o
unfolding message_shown found
message_found none = refl
message_found (some m) = refl

tail_found : (o : Option TailRow) → is_some (tail_shown o) ≡ found o
unfolding tail_shown found
tail_found none = refl
tail_found (some t) = refl

pub message_line : (k i : ℕ) (line : List ℕ) → (i ≡ 0 → ⊥) → i - 1 < k → is_some (message_shown (message_row (i - 1) line)) ≡ line_fits k i line
unfolding line_fits
message_line k zero line d h = absurd (d refl)
message_line k (suc i) line d h =
    let e : suc i - 1 ≡ i = omega arith in
    rw (e, lt-ltb i k (omega arith)) (message_found (message_row i line))

pub tail_line : (k i : ℕ) (line : List ℕ) → (i ≡ 0 → ⊥) → k ≤ i - 1 → is_some (tail_shown (tail_row (i - 1) line)) ≡ line_fits k i line
unfolding line_fits
tail_line k zero line d h = absurd (d refl)
tail_line k (suc i) line d h =
    let e : suc i - 1 ≡ i = omega arith in
    rw (e, le-ltb i k (omega arith)) (tail_found (tail_row i line))
