use Rattle.std.specs.Prelude.{◌≡◌, refl, Bool, true, false, ◌||◌, List, ℕ, ◌+◌, ℤ, length}
use Rattle.std.proofs.Common.{sym, ap, ◌∙◌, arith}
use Rattle.std.proofs.Math.Option.{Option}
use Rattle.std.proofs.lemmas.Bool.{false≢true}
use Rattle.lists.specs.Lists.{found}
use Rattle.trellis.specs.declared.End.{End}
use Rattle.trellis.specs.Table.{Table}
use Rattle.trellis.specs.Path.{Values}
use Rattle.trellis.specs.laws.Over.{over, over_none}
use Rattle.trellis.specs.laws.Sweeps.{reach_from}
use Rattle.siso.specs.laws.Pass.{Stage, ListsKept}
use Rattle.siso.proofs.Gathering.{reached_more}
use Rattle.siso.proofs.Accepted.gather_all.Goals as goal

-- before the first start
no-stage : (t : Table) (v : Values) (end : End) (n : ℕ) (ms : List ℕ) (gs es : List ℤ) → length ms ≡ n → length gs ≡ n → length es ≡ n → Stage t v end n 0 false ms gs es
unfolding found
no-stage t v end n ms gs es m g e = record {
  marks_long = m;
  margins_long = g;
  extrinsics_long = e;
  reached = sym (ap found (over_none 0 (reach_from t v end n) (λ s l. absurd (omega arith))));
  bests = λ q l. absurd (false≢true q);
  written = λ q l. absurd (false≢true q);
}

-- where none has a path with one start more, none had
none_before : (f : ℕ → Option ℤ) (a : ℕ) (any : Bool) → any ≡ found (over a f) → found (over (a + 1) f) ≡ false → any ≡ false
none_before f a false e none-now = refl
none_before f a true e none-now =
    absurd (false≢true (sym none-now ∙ reached_more f a ∙ ap (λ b. b || found (f a)) (sym e)))

kept_on :
    {ms ms' ms'' : List ℕ} {gs gs' gs'' es es' es'' : List ℤ} → ListsKept ms gs es ms' gs' es' → ListsKept ms' gs' es' ms'' gs'' es'' → ListsKept ms gs es ms'' gs'' es''
kept_on a b = record { marks = b.marks ∙ a.marks; margins = b.margins ∙ a.margins; extrinsics = b.extrinsics ∙ a.extrinsics }

pub loop-start-init : goal.loop-start-init
loop-start-init c = record {
  stage = no-stage _ _ _ _ _ _ _ c.requires.marks_len c.requires.margins_len c.requires.extrinsics_len;
  kept = λ q. record { marks = refl; margins = refl; extrinsics = refl };
}

pub loop-start-preserved : goal.loop-start-preserved
loop-start-preserved c =
    let inv = c.loop-start.invariant in
    let more = c.gather_from-any.ensures in
    record {
      stage = more.stage_2;
      kept = λ none-now.
          kept_on
          (inv.kept (none_before _ _ c.loop-start.any inv.stage.reached (sym more.stage_2.reached ∙ none-now)))
          (more.lists_kept none-now);
    }
