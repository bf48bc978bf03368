use mathlib.Core.Path.{◌≡◌, sym, ◌∙◌}
use mathlib.Core.Bool.{Bool, true, ◌&&◌}
use mathlib.Core.Option.{some}
use lib.IntN.{ℤ, pos}
use lib.ListN.{get_or}
use mir.Facts.{to_z-of_z}
use mir.Syntax.{w32}
use mir.Val.{SFits}
use Rattle.integers.specs.laws.Linear.{fits_of}
use Rattle.lists.specs.Lists.{found}
use Rattle.lists.specs.laws.Tests.{and_both}
use Rattle.metrics.specs.Words.{held}
use Rattle.metrics.specs.laws.Held.{found_some}
use Rattle.butterfly.proofs.Told.{told_at}
use Rattle.butterfly.proofs.position.tell_at.Goals as goal

-- at a free position both are metrics
both-there : (x y : ℤ) (free : Bool) → free ≡ (found (held x) && found (held y)) → free ≡ true → (held x ≡ some x) × (held y ≡ some y)
both-there x y free is holds = let (x-found, y-found) = and_both _ _ (sym is ∙ holds) in (found_some x x-found, found_some y y-found)

pub margin_less-requires-clause-zero_value : goal.margin_less-requires-clause-zero_value
margin_less-requires-clause-zero_value c = both-there _ _ _ c.is_free-free.ensures

pub margin_less-requires-2-clause-zero_value : goal.margin_less-requires-2-clause-zero_value
margin_less-requires-2-clause-zero_value c = both-there _ _ _ c.is_free-free.ensures

pub returns : goal.returns
returns c =
    let zero : SFits w32 (get_or c.args.margins.now c.args.k (pos 0)) = fits_of c.zero-1.given in
    let one : SFits w32 (get_or c.args.extrinsics.now c.args.k (pos 0)) = fits_of c.one-1.given in
    told_at c.requires.k_in_bounds c.requires.k_in_bounds_2 c.requires.k_in_bounds_3
    (rw (to_z-of_z zero, to_z-of_z one) at c.is_free-free.ensures)
    (rw (to_z-of_z one) at c.mark_of.ensures)
    (to_z-of_z {w = w32} (fits_of c.margin_less.type_inv) ∙ rw (to_z-of_z zero, to_z-of_z one) at c.margin_less.ensures)
    (to_z-of_z {w = w32} (fits_of c.margin_less-2.type_inv)
    ∙ rw (to_z-of_z zero, to_z-of_z one, to_z-of_z c.ranges.own) at c.margin_less-2.ensures)
