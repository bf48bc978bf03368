-- Demand 3 for the lone decoder, the proof: whatever is lent, a call to which no number but 12 applies is a whole lone pass, and no other result
-- would be.
-- Assumes nothing.
use Rattle.std.specs.Prelude.{◌≡◌, ◌↔◌, Bool, not, ℕ, ◌<◌, pos, length, Ok, Err}
use Rattle.std.proofs.Math.Path.{refl}
use Rattle.std.proofs.Common.{sym, ap, ◌∙◌, arith, ext_get_or}
use Rattle.std.proofs.Math.Bool.{true, false}
use Rattle.std.proofs.lemmas.Bool.{false≢true, not-true}
use Rattle.std.proofs.Math.Option.{Option, none, some, Option-elim}
use Rattle.std.proofs.Math.ListN.{replicate}
use Rattle.lists.specs.laws.Listed.{listed_length, listed_at}
use Rattle.refusal.specs.declared.Refusal.TheVariants.{NoPath}
use Rattle.refusal.specs.Refusals.{Reply, told, check, ◌then◌, first_of, cleared}
use Rattle.refusal.specs.laws.Checks.{refused_is_not_done, then_is_done, check_is_done}
use Rattle.refusal.specs.laws.InTurn.{first_passes}
use Rattle.trellis.specs.declared.Outcome.{Outcome}
use Rattle.trellis.specs.Outcome.{outcome, pathless, mark, margin, intrinsic, extrinsic, marks, margins, extrinsics}
use Rattle.trellis.proofs.laws.Emptiness.{outcome_is_none}
use Rattle.siso.specs.Decode.{Call, Lent, Result, lent_checks, path_checks, checks, settled, decode}
use Rattle.demands.specs.Meaning.{SomePath}
use Rattle.demands.specs.Lone.{IsEntry, LoneListsWritten, LoneListsKept, IsLonePass}
use Rattle.demands.proofs.laws.Outcomes.{outcome_means, means_one, mark_written, margin_written, extrinsic_written}
use Rattle.refusal.specs.laws.Kept.{after_done, after_refusal}
use Rattle.demands.proofs.laws.Told.{Tells, path_told}

-- ---- the reply

-- 12 and done, where P is that there is a path
record Says (r : Reply) (P : Type 0) : Type 0 where
  no_path : (r ≡ Err NoPath) ↔ (P → ⊥)
  done : (r ≡ Ok tt) ↔ P

reply_says : {P : Type 0} (b : Bool) → Tells b P → Says (check b NoPath then Ok tt) P
unfolding check ◌then◌
reply_says true t =
    let path = t.yes refl in
    record { no_path = (λ e. absurd (refused_is_not_done (sym e)), λ h. absurd (h path)); done = (λ e. path, λ h. refl) }
reply_says false t =
    let nothing = t.no refl in
    record { no_path = (λ e. nothing, λ h. refl); done = (λ e. absurd (refused_is_not_done e), λ h. absurd (nothing h)) }

module _ (c : Call) (l : Lent) where
  -- ---- the lists

  lists_kept : ((decode c l).reply ≡ Ok tt → ⊥) → LoneListsKept l (decode c l).lists
  unfolding decode settled
  lists_kept h = record { marks = after_refusal h _ _; margins = after_refusal h _ _; extrinsics = after_refusal h _ _ }

  entry_written : (decode c l).reply ≡ Ok tt → (k : ℕ) → k < c.sections → (o : Outcome) → outcome c.table c.values c.end c.sections k ≡ some o →
      IsEntry c (decode c l).lists k
  unfolding decode settled marks margins extrinsics Option-elim
  entry_written e k h o is =
      let t = c.table in
      let v = c.values in
      let end = c.end in
      let n = c.sections in
      record {
        said = o;
        means = rw is at (outcome_means t v end n k);
        mark_is = rw (after_done e _ _) (listed_at _ n k _ h ∙ mark_written t v end n k ∙ rw is);
        margin_is = rw (after_done e _ _) (listed_at _ n k _ h ∙ margin_written t v end n k ∙ rw is);
        extrinsic_is = rw (after_done e _ _) (listed_at _ n k _ h ∙ extrinsic_written t v end n k ∙ rw is);
      }

  lists_written : pathless c.table c.end c.sections ≡ false → (decode c l).reply ≡ Ok tt → LoneListsWritten c (decode c l).lists
  unfolding decode settled marks margins extrinsics
  lists_written some-path e = record {
    marks_long = rw (after_done e _ _) (listed_length _ c.sections);
    margins_long = rw (after_done e _ _) (listed_length _ c.sections);
    extrinsics_long = rw (after_done e _ _) (listed_length _ c.sections);
    entry = λ k h. go k h (outcome c.table c.values c.end c.sections k) refl;
  }
    where
      go : (k : ℕ) → k < c.sections → (o : Option Outcome) → outcome c.table c.values c.end c.sections k ≡ o → IsEntry c (decode c l).lists k
      go k h none is = absurd (false≢true (sym some-path ∙ (outcome_is_none c.table c.end c.sections k c.values).0 is))
      go k h (some o) is = entry_written e k h o is

  -- ---- the whole call

  module _ (passed : first_of (lent_checks c l) ≡ Ok tt) where
    reply_is : (decode c l).reply ≡ (check (not (pathless c.table c.end c.sections)) NoPath then Ok tt)
    unfolding decode settled checks path_checks first_of
    reply_is = first_passes (lent_checks c l) (path_checks c) passed

    -- 12 clears the working list, as success does
    work_cleared : (decode c l).lists.work ≡ replicate (length l.work) (pos 0)
    unfolding decode settled checks path_checks first_of
    work_cleared = rw (first_passes (lent_checks c l) (path_checks c) passed) (go (not (pathless c.table c.end c.sections)))
      where
        go : (b : Bool) → cleared (check b NoPath then Ok tt) l.work ≡ replicate (length l.work) (pos 0)
        go true = unfold check ◌then◌ cleared in refl
        go false = unfold check ◌then◌ cleared told in refl

    -- whatever is lent: a call to which no number but 12 applies is a whole lone pass
    pub every_pass_means : IsLonePass c l (decode c l)
    every_pass_means =
        let says : Says (decode c l).reply (SomePath c.table c.end c.sections) = rw reply_is (reply_says _ (path_told c.table c.end c.sections)) in
        record {
          no_path = says.no_path;
          done = says.done;
          written = λ e. lists_written (not-true _ ((check_is_done _ NoPath).0 ((then_is_done _ (Ok tt)).0 (sym reply_is ∙ e)).0)) e;
          kept = lists_kept;
          cleared = work_cleared;
        }

-- ---- the statement leaves nothing open

module _ (c : Call) (l : Lent) (x y : Result) (one : IsLonePass c l x) (other : IsLonePass c l y) where
  both_kept : (x.reply ≡ Ok tt → ⊥) → (y.reply ≡ Ok tt → ⊥) → LoneListsKept x.lists y.lists
  both_kept h g =
      let mine = one.kept h in
      let yours = other.kept g in
      record { marks = yours.marks ∙ sym mine.marks; margins = yours.margins ∙ sym mine.margins; extrinsics = yours.extrinsics ∙ sym mine.extrinsics }

  both_written : LoneListsWritten c x.lists → LoneListsWritten c y.lists → LoneListsKept x.lists y.lists
  both_written mine yours = record {
    marks = ext_get_or 0 _ _ (yours.marks_long ∙ sym mine.marks_long) (λ k h. let s : k < c.sections = omega (arith, yours.marks_long) in
        (yours.entry k s).mark_is ∙ ap mark (same k s) ∙ sym (mine.entry k s).mark_is);
    margins = ext_get_or (pos 0) _ _ (yours.margins_long ∙ sym mine.margins_long) (λ k h. let s : k < c.sections = omega (arith, yours.margins_long) in
        (yours.entry k s).margin_is ∙ ap margin (same k s) ∙ sym (mine.entry k s).margin_is);
    extrinsics = ext_get_or (pos 0) _ _ (yours.extrinsics_long ∙ sym mine.extrinsics_long) (λ k h. let s : k < c.sections = omega (arith, yours.extrinsics_long) in
        (yours.entry k s).extrinsic_is ∙ ap (extrinsic (intrinsic c.table c.values k)) (same k s) ∙ sym (mine.entry k s).extrinsic_is);
  }
    where
      same : (k : ℕ) (s : k < c.sections) → (yours.entry k s).said ≡ (mine.entry k s).said
      same k s = let e = means_one c.table c.values c.end c.sections k _ _ (yours.entry k s).means (mine.entry k s).means in cc

  same_replied : (x.reply ≡ y.reply) × LoneListsKept x.lists y.lists
  same_replied = go (not (pathless c.table c.end c.sections)) (path_told c.table c.end c.sections)
    where
      go : (b : Bool) → Tells b (SomePath c.table c.end c.sections) → (x.reply ≡ y.reply) × LoneListsKept x.lists y.lists
      go true t =
          let e = one.done.1 (t.yes refl) in
          let f = other.done.1 (t.yes refl) in
          (e ∙ sym f, both_written (one.written e) (other.written f))
      go false t =
          let e = one.no_path.1 (t.no refl) in
          let f = other.no_path.1 (t.no refl) in
          (e ∙ sym f, both_kept (λ d. refused_is_not_done (sym e ∙ d)) (λ d. refused_is_not_done (sym f ∙ d)))

  same_result : x ≡ y
  same_result =
      let (reply, lists) = same_replied in
      let work : x.lists.work ≡ y.lists.work = one.cleared ∙ sym other.cleared in
      λ i. record {
        reply = reply i;
        lists = record { marks = sym lists.marks i; margins = sym lists.margins i; extrinsics = sym lists.extrinsics i; work = work i };
      }

-- of a call to which no number but 12 applies, the decoder's result is the only one that the statement allows
pub pass_exactly : (c : Call) (l : Lent) → first_of (lent_checks c l) ≡ Ok tt → (x : Result) → IsLonePass c l x ↔ (x ≡ decode c l)
pass_exactly c l passed x =
    let is = every_pass_means c l passed in
    (λ h. same_result c l x (decode c l) h is, λ e. rw e is)
