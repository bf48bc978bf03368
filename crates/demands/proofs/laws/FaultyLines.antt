-- The first faulty line of a sheet: that line breaks the rules, or it is a last piece without its line feed, and no line before it does. Where there is none,
-- every line keeps them.
-- Assumes nothing.
use Rattle.std.specs.Prelude.{◌≡◌, refl, Bool, true, false, cond, List, [], ◌∷◌, ℕ, zero, suc, ◌+◌, ◌<◌, length, get_or}
use Rattle.std.proofs.Common.{sym, ◌∙◌, inl, inr, add-zero, arith}
use Rattle.std.proofs.Math.Option.{Option, none, some, or_else, some-injective, some-ne-none}
use Rattle.lists.specs.Lists.{is_empty}
use Rattle.rows.specs.Lines.{lines_of, last_piece, message_bits, line_fits, fault_from, first_fault}
use Rattle.demands.specs.Answered.{IsFaultyLine, IsFaultless}

-- of lines counted from `from`, number i is the first that breaks the rules
record Fault (k from : ℕ) (lines : List (List ℕ)) (i : ℕ) : Type 0 where
  offset : ℕ
  counted : i ≡ from + offset
  inside : offset < length lines
  fails : line_fits k i (get_or lines offset []) ≡ false
  fit_before : (j : ℕ) → j < offset → line_fits k (from + j) (get_or lines j []) ≡ true

-- a line that fits, before others
fit_too : (k from : ℕ) (line : List ℕ) (lines : List (List ℕ)) (n : ℕ) → line_fits k from line ≡ true →
    ((j : ℕ) → j < n → line_fits k (suc from + j) (get_or lines j []) ≡ true) → (j : ℕ) → j < suc n → line_fits k (from + j) (get_or (line ∷ lines) j []) ≡ true
fit_too k from line lines n e rest zero h = rw (add-zero from) e
fit_too k from line lines n e rest (suc j) h = let same : from + suc j ≡ suc from + j = omega arith in rw same (rest j (omega arith))

fault_at : (k from : ℕ) (lines : List (List ℕ)) (i : ℕ) → fault_from k from lines ≡ some i → Fault k from lines i
unfolding fault_from
fault_at k from [] i e = absurd (some-ne-none i (sym e))
fault_at k from (line ∷ lines) i e = go (line_fits k from line) refl e (fault_at k (suc from) lines i)
  where
    go : (b : Bool) → line_fits k from line ≡ b → cond b (fault_from k (suc from) lines) (some from) ≡ some i →
        (fault_from k (suc from) lines ≡ some i → Fault k (suc from) lines i) → Fault k from (line ∷ lines) i
    go false fits e later =
        let here : from ≡ i = some-injective from i e in
        record {
          offset = 0;
          counted = omega (arith, here);
          inside = omega arith;
          fails = rw (← here) fits;
          fit_before = λ j h. absurd (omega arith);
        }
    go true fits e later =
        let rest = later e in
        record {
          offset = suc rest.offset;
          counted = omega (arith, rest.counted);
          inside = omega (arith, rest.inside);
          fails = rest.fails;
          fit_before = fit_too k from line lines rest.offset fits rest.fit_before;
        }

fault_free : (k from : ℕ) (lines : List (List ℕ)) → fault_from k from lines ≡ none → (j : ℕ) → j < length lines → line_fits k (from + j) (get_or lines j []) ≡ true
unfolding fault_from
fault_free k from [] e = λ j h. absurd (omega arith)
fault_free k from (line ∷ lines) e = go (line_fits k from line) refl e (fault_free k (suc from) lines)
  where
    go : (b : Bool) → line_fits k from line ≡ b → cond b (fault_from k (suc from) lines) (some from) ≡ none →
        (fault_from k (suc from) lines ≡ none → (j : ℕ) → j < length lines → line_fits k (suc from + j) (get_or lines j []) ≡ true) →
        (j : ℕ) → j < suc (length lines) → line_fits k (from + j) (get_or (line ∷ lines) j []) ≡ true
    go false fits e later = absurd (some-ne-none from e)
    go true fits e later = fit_too k from line lines (length lines) fits (later e)

pub faulty_line : (sheet : List ℕ) (i : ℕ) → first_fault sheet ≡ some i → IsFaultyLine sheet (suc i)
unfolding first_fault or_else
faulty_line sheet i e = go (fault_from (message_bits sheet) 0 (lines_of sheet)) refl e
  where
    zeroth : (j : ℕ) → 0 + j ≡ j
    zeroth j = omega arith

    open_end : (b : Bool) → is_empty (last_piece sheet) ≡ b → cond b none (some (length (lines_of sheet))) ≡ some i →
        (length (lines_of sheet) ≡ i) × (is_empty (last_piece sheet) ≡ false)
    open_end true h e = absurd (some-ne-none i (sym e))
    open_end false h e = (some-injective (length (lines_of sheet)) i e, h)

    go : (f : Option ℕ) → fault_from (message_bits sheet) 0 (lines_of sheet) ≡ f →
        or_else f (cond (is_empty (last_piece sheet)) none (some (length (lines_of sheet)))) ≡ some i → IsFaultyLine sheet (suc i)
    go (some n) f e =
        let fault = fault_at (message_bits sheet) 0 (lines_of sheet) i (f ∙ e) in
        let at : fault.offset ≡ i = omega (arith, fault.counted) in
        record {
          index = i;
          from_one = refl;
          faulty = inl (omega (arith, fault.inside, at), rw at at fault.fails);
          fit_before = λ j h. rw (zeroth j) at (fault.fit_before j (omega (arith, at)));
        }
    go none f e =
        let (long, unended) = open_end (is_empty (last_piece sheet)) refl e in
        record {
          index = i;
          from_one = refl;
          faulty = inr (sym long, unended);
          fit_before = λ j h. rw (zeroth j) at (fault_free (message_bits sheet) 0 (lines_of sheet) f j (omega (arith, long)));
        }

pub faultless_lines : (sheet : List ℕ) → first_fault sheet ≡ none → IsFaultless sheet
unfolding first_fault or_else
faultless_lines sheet e = go (fault_from (message_bits sheet) 0 (lines_of sheet)) refl (is_empty (last_piece sheet)) refl e
  where
    zeroth : (j : ℕ) → 0 + j ≡ j
    zeroth j = omega arith

    go : (f : Option ℕ) → fault_from (message_bits sheet) 0 (lines_of sheet) ≡ f → (b : Bool) → is_empty (last_piece sheet) ≡ b →
        or_else f (cond b none (some (length (lines_of sheet)))) ≡ none → IsFaultless sheet
    go (some n) f b g e = absurd (some-ne-none n e)
    go none f false g e = absurd (some-ne-none (length (lines_of sheet)) e)
    go none f true g e = record { fit = λ i h. rw (zeroth i) at (fault_free (message_bits sheet) 0 (lines_of sheet) f i h); ended = g }
