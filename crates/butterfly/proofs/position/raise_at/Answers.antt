use mathlib.Core.Path.{◌≡◌, refl, ap, ◌∙◌}
use mathlib.Core.Bool.{Bool, false, false≢true}
use mathlib.Core.List.{List}
use mathlib.Core.Option.{Option}
use Prim.Native.Nat.{ℕ, ◌<◌}
use lib.IntN.{ℤ, pos}
use lib.ListN.{length, get_or, set}
use lib.Seq.{get_or-set_same, get_or-set_other}
use mir.Facts.{to_z-of_z}
use mir.Syntax.{w32}
use mir.Val.{SFits}
use Rattle.integers.specs.laws.Linear.{fits_of}
use Rattle.trellis.specs.Outcome.{larger}
use Rattle.metrics.specs.Words.{held}
use Rattle.siso.specs.laws.Told.{raised, LeftAt}
use Rattle.butterfly.proofs.Sums.{kept}
use Rattle.butterfly.proofs.position.raise_at.Goals as goal

-- two words that are set at k, of the raised metrics
left-raised :
    {first : Bool} {k : ℕ} {zero one : Option ℤ} {told : ℤ} {ms : List ℕ} {gs es : List ℤ} → k < length gs → k < length es
    → (z o : ℤ) → held z ≡ raised first (get_or gs k (pos 0)) zero → held o ≡ raised first (get_or es k (pos 0)) one
    → LeftAt first false k zero one told ms gs es ms (set gs k z) (set es k o)
left-raised {first} {k} {zero} {one} {told} {ms} {gs} {es} in-margins in-extrinsics z o z-is o_is = record {
  metrics = λ q. (ap held (get_or-set_same gs k z (pos 0) in-margins) ∙ z-is, ap held (get_or-set_same es k o (pos 0) in-extrinsics) ∙ o_is);
  position = λ q. absurd (false≢true q);
  marks_others = λ j d. refl;
  margins_others = λ j d. get_or-set_other gs k j z (pos 0) d;
  extrinsics_others = λ j d. get_or-set_other es k j o (pos 0) d;
}

-- at a later start
later : {first : Bool} (x : ℤ) (m : Option ℤ) → first ≡ false → larger (held x) m ≡ raised first x m
later x m not_first = rw not_first

pub returns-then-first : goal.returns-then-first
unfolding larger
returns-then-first c told ms =
    rw (to_z-of_z c.ranges.zero, to_z-of_z c.ranges.one, c.if-first.true)
    (left-raised c.requires.k_in_bounds c.requires.k_in_bounds_2 _ _ refl refl)

pub returns-else-first : goal.returns-else-first
returns-else-first c told ms =
    let zero : ℤ = get_or c.args.margins.now c.args.k (pos 0) in
    let one : ℤ = get_or c.args.extrinsics.now c.args.k (pos 0) in
    let zero-fits : SFits w32 zero = fits_of c.larger-arg-1.given in
    let one_fits : SFits w32 one = fits_of c.larger-arg-else-first-1.given in
    left-raised c.requires.k_in_bounds c.requires.k_in_bounds_2 _ _
    (kept c.larger-best0.result c.larger-best0.type_inv
    (rw (to_z-of_z zero-fits, to_z-of_z c.ranges.zero) at c.larger-best0.ensures ∙ later zero (held c.args.zero) c.if-first.false))
    (kept c.larger-best1.result c.larger-best1.type_inv
    (rw (to_z-of_z one_fits, to_z-of_z c.ranges.one) at c.larger-best1.ensures ∙ later one (held c.args.one) c.if-first.false))
