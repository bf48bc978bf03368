use Rattle.std.specs.Prelude.{◌≡◌, refl, Bool, true, false, List, ℕ, ◌<◌, ℤ, pos, length, get_or, set}
use Rattle.std.proofs.Common.{rules, sym, ap, ◌∙◌, SFits, to_z, of_z, get_or-set_same, get_or-set_other}
use Rattle.std.proofs.Math.Option.{Option, some, Option-elim}
use Rattle.std.proofs.lemmas.Bool.{false≢true}
use Rattle.std.specs.Int.{w32}
use Rattle.integers.specs.laws.Linear.{plain, fits_of}
use Rattle.trellis.specs.declared.Position.{Position}
use Rattle.trellis.specs.Outcome.{larger, outcome_of, position_of, mark, margin}
use Rattle.metrics.specs.Words.{held}
use Rattle.siso.specs.laws.Told.{before, raised, mark_at, margin_at, extrinsic_at, LeftAt}
use Rattle.siso.proofs.position.gather_at.Goals as goal

-- ---- what is left, by whether this start is the last

module _
    {first last : Bool} {k : ℕ} {zero one : Option ℤ} {told : ℤ} {ms : List ℕ} {gs es : List ℤ}
    (in-marks : k < length ms) (in-margins : k < length gs) (in-extrinsics : k < length es) where
  left-told :
      {ms' : List ℕ} {gs' es' : List ℤ} (p : Position) → last ≡ true
      → some p ≡ position_of told (outcome_of (raised first (get_or gs k (pos 0)) zero) (raised first (get_or es k (pos 0)) one))
      → ms' ≡ set ms k (mark p.outcome) → gs' ≡ set gs k (margin p.outcome) → es' ≡ set es k p.extrinsic
      → LeftAt first last k zero one told ms gs es ms' gs' es'
  unfolding Option-elim
  left-told p is_last is m g e = rw (m, g, e) (record {
    metrics = λ q. absurd (false≢true (sym q ∙ is_last));
    position = λ q. record {
      mark_is = get_or-set_same ms k _ 0 in-marks ∙ ap mark_at is;
      margin_is = get_or-set_same gs k _ (pos 0) in-margins ∙ ap margin_at is;
      extrinsic_is = get_or-set_same es k _ (pos 0) in-extrinsics ∙ ap extrinsic_at is;
    };
    marks_others = λ j d. get_or-set_other ms k j _ 0 d;
    margins_others = λ j d. get_or-set_other gs k j _ (pos 0) d;
    extrinsics_others = λ j d. get_or-set_other es k j _ (pos 0) d;
  })

  left-raised :
      (z o : ℤ) → last ≡ false → held z ≡ raised first (get_or gs k (pos 0)) zero → held o ≡ raised first (get_or es k (pos 0)) one
      → LeftAt first last k zero one told ms gs es ms (set gs k z) (set es k o)
  left-raised z o not_last z-is o_is = record {
    metrics = λ q. (ap held (get_or-set_same gs k z (pos 0) in-margins) ∙ z-is, ap held (get_or-set_same es k o (pos 0) in-extrinsics) ∙ o_is);
    position = λ q. absurd (false≢true (sym not_last ∙ q));
    marks_others = λ j d. refl;
    margins_others = λ j d. get_or-set_other gs k j z (pos 0) d;
    extrinsics_others = λ j d. get_or-set_other es k j o (pos 0) d;
  }

-- ---- the two best metrics

-- the best metric of the starts so far, with that of this one
raised_word :
    (first : Bool) (x z h best : ℤ) → SFits w32 x → SFits w32 z → SFits w32 h
    → held h ≡ before first (to_z w32 (of_z w32 x)) → held best ≡ larger (held (to_z w32 (of_z w32 h))) (held (to_z w32 (of_z w32 z)))
    → held best ≡ raised first x (held z)
raised_word first x z h best fx fz fh e l = (simp plain at l) ∙ ap (λ m. larger m (held z)) (simp plain at e)

pub settled-requires-clause-fact : goal.settled-requires-clause-fact
settled-requires-clause-fact c =
    let x : SFits w32 (get_or c.args.margins.now c.args.k (pos 0)) = search rules in
    let y : SFits w32 (get_or c.args.extrinsics.now c.args.k (pos 0)) = search rules in
    let b0 : SFits w32 c.larger-best0.result = fits_of c.larger-best0.type_inv in
    let b1 : SFits w32 c.larger-best1.result = fits_of c.larger-best1.type_inv in
    let zero = raised_word c.args.first (get_or c.args.margins.now c.args.k (pos 0)) c.args.zero c.had.result c.larger-best0.result x c.ranges.zero (fits_of c.had.type_inv) c.had.ensures c.larger-best0.ensures in
    let one = raised_word c.args.first (get_or c.args.extrinsics.now c.args.k (pos 0)) c.args.one c.had-2.result c.larger-best1.result y c.ranges.one (fits_of c.had-2.type_inv) c.had-2.ensures c.larger-best1.ensures in
    simp plain (rw (zero, one) (c.requires.tellable c.if-last.true).path)

pub returns-then-last : goal.returns-then-last
returns-then-last c =
    let x : SFits w32 (get_or c.args.margins.now c.args.k (pos 0)) = search rules in
    let y : SFits w32 (get_or c.args.extrinsics.now c.args.k (pos 0)) = search rules in
    let b0 : SFits w32 c.larger-best0.result = fits_of c.larger-best0.type_inv in
    let b1 : SFits w32 c.larger-best1.result = fits_of c.larger-best1.type_inv in
    let t = c.ranges.told in
    let zero = raised_word c.args.first (get_or c.args.margins.now c.args.k (pos 0)) c.args.zero c.had.result c.larger-best0.result x c.ranges.zero (fits_of c.had.type_inv) c.had.ensures c.larger-best0.ensures in
    let one = raised_word c.args.first (get_or c.args.extrinsics.now c.args.k (pos 0)) c.args.one c.had-2.result c.larger-best1.result y c.ranges.one (fits_of c.had-2.type_inv) c.had-2.ensures c.larger-best1.ensures in
    left-told c.requires.k_in_bounds c.requires.k_in_bounds_2 c.requires.k_in_bounds_3 c.settled.result c.if-last.true
    (rw (zero, one) at (simp plain at c.settled.ensures))
    c.put.ensures.marks_after c.put.ensures.margins_after c.put.ensures.extrinsics_after

pub returns-else-last : goal.returns-else-last
returns-else-last c =
    let x : SFits w32 (get_or c.args.margins.now c.args.k (pos 0)) = search rules in
    let y : SFits w32 (get_or c.args.extrinsics.now c.args.k (pos 0)) = search rules in
    let b0 : SFits w32 c.larger-best0.result = fits_of c.larger-best0.type_inv in
    let b1 : SFits w32 c.larger-best1.result = fits_of c.larger-best1.type_inv in
    let zero = raised_word c.args.first (get_or c.args.margins.now c.args.k (pos 0)) c.args.zero c.had.result c.larger-best0.result x c.ranges.zero (fits_of c.had.type_inv) c.had.ensures c.larger-best0.ensures in
    let one = raised_word c.args.first (get_or c.args.extrinsics.now c.args.k (pos 0)) c.args.one c.had-2.result c.larger-best1.result y c.ranges.one (fits_of c.had-2.type_inv) c.had-2.ensures c.larger-best1.ensures in
    simp plain (left-raised c.requires.k_in_bounds c.requires.k_in_bounds_2 c.requires.k_in_bounds_3 _ _ c.if-last.false zero one)
