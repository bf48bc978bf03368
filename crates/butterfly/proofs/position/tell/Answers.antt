use mathlib.Core.Path.{◌∙◌}
use Prim.Native.Nat.{◌*◌}
use native.Mathlib.Omega.{arith}
use lib.IntN.{pos}
use lib.ListN.{get_or}
use mir.Facts.{to_z-of_z}
use mir.Syntax.{w16, w32}
use mir.Val.{SFits}
use Rattle.integers.specs.laws.Laws.{within_more}
use Rattle.integers.specs.laws.Linear.{fits_of}
use Rattle.butterfly.proofs.Sections.{short_fits}
use Rattle.butterfly.proofs.Told.{told_none, told_more}
use Rattle.butterfly.proofs.position.tell.Goals as goal

pub loop-k-init : goal.loop-k-init
loop-k-init c = told_none _ _ _ _ c.requires.marks_len c.requires.margins_len c.requires.extrinsics_len

pub tell_at-requires-clause-tellable : goal.tell_at-requires-clause-tellable
tell_at-requires-clause-tellable c =
    let lists = c.loop-k.invariant in
    rw (lists.margin_ahead c.loop-k.k (omega arith), lists.extrinsic_ahead c.loop-k.k (omega arith))
    (c.requires.by_index_3 c.loop-k.k c.loop-k-test.true)

pub loop-k-preserved : goal.loop-k-preserved
loop-k-preserved c =
    let k = c.loop-k.k in
    let a-fits : SFits w16 (get_or c.args.apriori.now k (pos 0)) = short_fits _ (c.requires.by_index_2 k) in
    let y-fits : SFits w16 (get_or c.args.channel.now (2 * k) (pos 0)) = short_fits _ (within_more (omega arith) (c.requires.by_index (2 * k))) in
    told_more _ _ _ _ c.loop-k.invariant
    (to_z-of_z {w = w32} (fits_of c.own_of-own.type_inv) ∙ rw (to_z-of_z a-fits, to_z-of_z y-fits) at c.own_of-own.ensures)
    c.tell_at.ensures c.tell_at.auto.marks c.tell_at.auto.margins c.tell_at.auto.extrinsics

pub returns : goal.returns
returns c k inside = c.loop-k.invariant.is k (omega (arith, c.loop-k-test.false))
