-- Demand 3 for the lone decoder, the statement: what a whole call is, from the values lent to the lists written (document 01, "Table, path and
-- metric"). Every outcome is said over the paths of the call's end; no recursion over states and no listing of paths is named here.
-- Assumes nothing.
use Rattle.std.specs.Prelude.{◌≡◌, ◌↔◌, ℕ, ◌<◌, pos, length, get_or, replicate, Ok, Err}
use Rattle.std.proofs.Math.Option.{some}
use Rattle.refusal.specs.declared.Refusal.TheVariants.{NoPath}
use Rattle.trellis.specs.declared.Outcome.{Outcome}
use Rattle.trellis.specs.Outcome.{mark, margin, intrinsic, extrinsic}
use Rattle.siso.specs.Decode.{Call, Lent, Result}
use Rattle.demands.specs.Meaning.{SomePath, Means}

-- the lists hold, at position k, the mark, the margin and the extrinsic of its outcome, which is what the paths say
pub record IsEntry (c : Call) (l : Lent) (k : ℕ) : Type 0 where
  pub said : Outcome
  pub means : Means c.table c.values c.end c.sections k (some said)
  pub mark_is : get_or l.marks k 0 ≡ mark said
  pub margin_is : get_or l.margins k (pos 0) ≡ margin said
  pub extrinsic_is : get_or l.extrinsics k (pos 0) ≡ extrinsic (intrinsic c.table c.values k) said

-- the lists written: N entries each
pub record LoneListsWritten (c : Call) (l : Lent) : Type 0 where
  pub marks_long : length l.marks ≡ c.sections
  pub margins_long : length l.margins ≡ c.sections
  pub extrinsics_long : length l.extrinsics ≡ c.sections
  pub entry : (k : ℕ) → k < c.sections → IsEntry c l k

-- the result lists are as they were lent
pub record LoneListsKept (lent left : Lent) : Type 0 where
  pub marks : left.marks ≡ lent.marks
  pub margins : left.margins ≡ lent.margins
  pub extrinsics : left.extrinsics ≡ lent.extrinsics

-- what a call with no refusal but 12 comes to: 12 is given exactly where there is no path
pub record IsLonePass (c : Call) (lent : Lent) (result : Result) : Type 0 where
  pub no_path : (result.reply ≡ Err NoPath) ↔ (SomePath c.table c.end c.sections → ⊥)
  pub done : (result.reply ≡ Ok tt) ↔ SomePath c.table c.end c.sections
  pub written : result.reply ≡ Ok tt → LoneListsWritten c result.lists
  pub kept : (result.reply ≡ Ok tt → ⊥) → LoneListsKept lent result.lists
  pub cleared : result.lists.work ≡ replicate (length lent.work) (pos 0)
