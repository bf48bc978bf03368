-- What the functions that read rows go by, as sets of laws: one test or field that fails is enough for none.
-- Assumes nothing.
use Rattle.std.specs.Prelude.{◌≡◌, refl, Bool, true, false, List, [], ℕ, ◌+◌, ◌≤◌, ℤ, eqb, None, length, get_or}
use Rattle.std.proofs.Common.{sym, ap, ◌∙◌, arith, to_z-of_z, ne_eqb, eq-eqb}
use Rattle.std.proofs.Math.Bool.{and-false, and-true}
use Rattle.std.proofs.Math.ListN.{get_or-eq_default}
use Rattle.std.proofs.Math.Option.{Option, none, some, map, Option-elim}
use Rattle.text.specs.Text.{bytes, cut, same}
use Rattle.text.specs.Decimal.{natural, integer}
use Rattle.rows.specs.Rows.{field_at, dash, value_or_unsent, starts, message_row, tail_row}
use Rattle.rows.specs.Lines.{line_fits}
use Rattle.rows.specs.Lent.{received_value, a_message, message_shown, a_tail, tail_shown, tail_in}
use Rattle.rows.specs.laws.Pieces.{Counted, cut_few}
use Rattle.rows.specs.laws.Reading.{message_by, message_by_lem, tail_by, tail_by_lem, nothing_is_no_tail, message_line, tail_line}

-- ---- a row's number, and its six fields

module _ (k : ℕ) (line : List ℕ) where
  pub unnumbered : none ≡ natural (field_at line 0) → starts k line ≡ false
  unfolding starts Option-elim
  unnumbered e = rw (sym e) (and-false (eqb (length (cut 32 line)) 6))

  pub another : (n : ℕ) → some n ≡ natural (field_at line 0) → (n ≡ k → ⊥) → starts k line ≡ false
  unfolding starts Option-elim
  another n e d = rw (sym e, ne_eqb n k d) (and-false (eqb (length (cut 32 line)) 6))

  pub counted : (n last count : ℕ) → some n ≡ natural (field_at line 0) → n ≡ k → Counted 32 line count last → eqb count 6 ≡ starts k line
  unfolding starts Option-elim
  counted n last count e same c = rw (sym e, eq-eqb n k same, c.counted) (sym (and-true (eqb count 6)))

pub ruleset starting = (unnumbered, another, counted)

-- ---- message rows

undashed_message : (a : Bool) (t : Option ℕ) (s : Option ℤ) (p : Option ℤ) (q : Option ℤ) → message_by a false t s p q ≡ None
unfolding message_by
undashed_message false t s p q = refl
undashed_message true t s p q = refl

no_message_to : (a b : Bool) (s : Option ℤ) (p : Option ℤ) (q : Option ℤ) → message_by a b none s p q ≡ None
unfolding message_by
no_message_to false b s p q = refl
no_message_to true false s p q = refl
no_message_to true true s p q = refl

no_message_sys : (a b : Bool) (t : Option ℕ) (p : Option ℤ) (q : Option ℤ) → message_by a b t none p q ≡ None
unfolding message_by
no_message_sys false b t p q = refl
no_message_sys true false t p q = refl
no_message_sys true true none p q = refl
no_message_sys true true (some t) p q = refl

no_message_par : (a b : Bool) (t : Option ℕ) (s : Option ℤ) (q : Option ℤ) → message_by a b t s none q ≡ None
unfolding message_by
no_message_par false b t s q = refl
no_message_par true false t s q = refl
no_message_par true true none s q = refl
no_message_par true true (some t) none q = refl
no_message_par true true (some t) (some s) q = refl

no_message_par2 : (a b : Bool) (t : Option ℕ) (s : Option ℤ) (p : Option ℤ) → message_by a b t s p none ≡ None
unfolding message_by
no_message_par2 false b t s p = refl
no_message_par2 true false t s p = refl
no_message_par2 true true none s p = refl
no_message_par2 true true (some t) none p = refl
no_message_par2 true true (some t) (some s) none = refl
no_message_par2 true true (some t) (some s) (some p) = refl

module _ (k : ℕ) (line : List ℕ) where
  pub unstarted_message : starts k line ≡ false → message_shown (message_row k line) ≡ None
  unfolding message_by
  unstarted_message e = sym (message_by_lem k line (sym e) refl refl refl refl refl)

  pub undashed_message_row : dash (field_at line 5) ≡ false → message_shown (message_row k line) ≡ None
  undashed_message_row e = sym (message_by_lem k line refl (sym e) refl refl refl refl) ∙ undashed_message _ _ _ _ _

  pub none_message_to : none ≡ natural (field_at line 1) → message_shown (message_row k line) ≡ None
  none_message_to e = sym (message_by_lem k line refl refl e refl refl refl) ∙ no_message_to _ _ _ _ _

  pub none_message_sys : none ≡ map received_value (value_or_unsent (field_at line 2)) → message_shown (message_row k line) ≡ None
  none_message_sys e = sym (message_by_lem k line refl refl refl e refl refl) ∙ no_message_sys _ _ _ _ _

  pub none_message_par : none ≡ map received_value (value_or_unsent (field_at line 3)) → message_shown (message_row k line) ≡ None
  none_message_par e = sym (message_by_lem k line refl refl refl refl e refl) ∙ no_message_par _ _ _ _ _

  pub none_message_par2 : none ≡ map received_value (value_or_unsent (field_at line 4)) → message_shown (message_row k line) ≡ None
  none_message_par2 e = sym (message_by_lem k line refl refl refl refl refl e) ∙ no_message_par2 _ _ _ _ _

  pub whole_message : (to : ℕ) (sys : ℤ) (par : ℤ) (par2 : ℤ) → starts k line ≡ true → dash (field_at line 5) ≡ true
      → some to ≡ natural (field_at line 1)
      → some sys ≡ map received_value (value_or_unsent (field_at line 2))
      → some par ≡ map received_value (value_or_unsent (field_at line 3))
      → some par2 ≡ map received_value (value_or_unsent (field_at line 4))
      → message_shown (message_row k line) ≡ a_message to sys par par2
  unfolding message_by
  whole_message to sys par par2 a b e0 e1 e2 e3 = sym (message_by_lem k line (sym a) (sym b) e0 e1 e2 e3)

pub ruleset messages = (unstarted_message, undashed_message_row, none_message_to, none_message_sys, none_message_par, none_message_par2, whole_message, to_z-of_z)

-- ---- tail rows

undashed_tail : (a : Bool) (s : Option ℤ) (p : Option ℤ) (q : Option ℤ) (r : Option ℤ) → tail_by a false s p q r ≡ None
unfolding tail_by
undashed_tail false s p q r = refl
undashed_tail true s p q r = refl

no_tail_sys : (a b : Bool) (p : Option ℤ) (q : Option ℤ) (r : Option ℤ) → tail_by a b none p q r ≡ None
unfolding tail_by
no_tail_sys false b p q r = refl
no_tail_sys true false p q r = refl
no_tail_sys true true p q r = refl

no_tail_par : (a b : Bool) (s : Option ℤ) (q : Option ℤ) (r : Option ℤ) → tail_by a b s none q r ≡ None
unfolding tail_by
no_tail_par false b s q r = refl
no_tail_par true false s q r = refl
no_tail_par true true none q r = refl
no_tail_par true true (some s) q r = refl

no_tail_par2 : (a b : Bool) (s : Option ℤ) (p : Option ℤ) (r : Option ℤ) → tail_by a b s p none r ≡ None
unfolding tail_by
no_tail_par2 false b s p r = refl
no_tail_par2 true false s p r = refl
no_tail_par2 true true none p r = refl
no_tail_par2 true true (some s) none r = refl
no_tail_par2 true true (some s) (some p) r = refl

no_tail_sys2 : (a b : Bool) (s : Option ℤ) (p : Option ℤ) (q : Option ℤ) → tail_by a b s p q none ≡ None
unfolding tail_by
no_tail_sys2 false b s p q = refl
no_tail_sys2 true false s p q = refl
no_tail_sys2 true true none p q = refl
no_tail_sys2 true true (some s) none q = refl
no_tail_sys2 true true (some s) (some p) none = refl
no_tail_sys2 true true (some s) (some p) (some q) = refl

module _ (k : ℕ) (line : List ℕ) where
  pub unstarted_tail : starts k line ≡ false → tail_shown (tail_row k line) ≡ None
  unfolding tail_by
  unstarted_tail e = sym (tail_by_lem k line (sym e) refl refl refl refl refl)

  pub undashed_tail_row : dash (field_at line 1) ≡ false → tail_shown (tail_row k line) ≡ None
  undashed_tail_row e = sym (tail_by_lem k line refl (sym e) refl refl refl refl) ∙ undashed_tail _ _ _ _ _

  pub none_tail_sys : none ≡ integer (field_at line 2) → tail_shown (tail_row k line) ≡ None
  none_tail_sys e = sym (tail_by_lem k line refl refl e refl refl refl) ∙ no_tail_sys _ _ _ _ _

  pub none_tail_par : none ≡ integer (field_at line 3) → tail_shown (tail_row k line) ≡ None
  none_tail_par e = sym (tail_by_lem k line refl refl refl e refl refl) ∙ no_tail_par _ _ _ _ _

  pub none_tail_par2 : none ≡ integer (field_at line 4) → tail_shown (tail_row k line) ≡ None
  none_tail_par2 e = sym (tail_by_lem k line refl refl refl refl e refl) ∙ no_tail_par2 _ _ _ _ _

  pub none_tail_sys2 : none ≡ integer (field_at line 5) → tail_shown (tail_row k line) ≡ None
  none_tail_sys2 e = sym (tail_by_lem k line refl refl refl refl refl e) ∙ no_tail_sys2 _ _ _ _ _

  pub whole_tail : (sys : ℤ) (par : ℤ) (par2 : ℤ) (sys2 : ℤ) → starts k line ≡ true → dash (field_at line 1) ≡ true
      → some sys ≡ integer (field_at line 2)
      → some par ≡ integer (field_at line 3)
      → some par2 ≡ integer (field_at line 4)
      → some sys2 ≡ integer (field_at line 5)
      → tail_shown (tail_row k line) ≡ a_tail sys par par2 sys2
  unfolding tail_by
  whole_tail sys par par2 sys2 a b e0 e1 e2 e3 = sym (tail_by_lem k line (sym a) (sym b) e0 e1 e2 e3)

pub ruleset tails = (unstarted_tail, undashed_tail_row, none_tail_sys, none_tail_par, none_tail_par2, none_tail_sys2, whole_tail, to_z-of_z)

-- ---- a tail row of a sheet

pub past_the_sheet : (sheet : List ℕ) (k : ℕ) → length sheet ≤ k → tail_in sheet k ≡ None
unfolding tail_in
past_the_sheet sheet k h =
    let none : get_or (cut 10 sheet) (k + 1) [] ≡ [] = get_or-eq_default (cut 10 sheet) [] (omega (arith, cut_few 10 sheet)) in
    ap (λ l. tail_shown (tail_row k l)) none ∙ sym (nothing_is_no_tail k)

pub row_of_sheet : (sheet line : List ℕ) (k : ℕ) → line ≡ get_or (cut 10 sheet) (k + 1) [] → tail_shown (tail_row k line) ≡ tail_in sheet k
unfolding tail_in
row_of_sheet sheet line k e = ap (λ l. tail_shown (tail_row k l)) e

pub ruleset tail_rows = (past_the_sheet, row_of_sheet)

-- ---- a line

pub header_line : (k i : ℕ) (line : List ℕ) → i ≡ 0 → same line (bytes "at to sys par par2 sys2") ≡ line_fits k i line
unfolding line_fits
header_line k i line e = rw e refl

pub ruleset lines = (header_line, message_line, tail_line)
