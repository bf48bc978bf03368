-- Laws of a list of checks, whatever its checks are: when the reply is done, which refusal it gives, one list after another, and which refusals it can give at
-- all.
-- Assumes nothing.
use Rattle.std.specs.Prelude.{◌≡◌, ◌↔◌, Bool, true, List, [], ◌∷◌, ◌++◌, Ok, Err}
use Rattle.std.proofs.Math.Path.{refl, sym, ap}
use Rattle.std.proofs.Common.{ap₂, ◌∙◌}
use Rattle.std.proofs.Math.Bool.{false}
use Rattle.lists.specs.Lists.{every}
use Rattle.lists.specs.laws.Tests.{and_both, and_true}
use Rattle.refusal.specs.declared.Refusal.{Refusal}
use Rattle.refusal.specs.Refusals.{Reply, told, Check, ◌unless◌, check, ◌then◌, first_of}
use Rattle.refusal.specs.Replied.{all_hold, IsFirstToFail, IsReply}
use Rattle.refusal.specs.laws.Checks.{refused_is_not_done, check_is_done, then_is_done, done_then, refused_then, then_assoc, done_after, fails_first}
use Rattle.refusal.specs.laws.Kept.{Gives, gives_done, gives_check, gives_then, gives_refusal, other, other_is_not}

-- ---- one list after another

pub first_of_both : (xs ys : List Check) → first_of (xs ++ ys) ≡ (first_of xs then first_of ys)
unfolding first_of ◌then◌
first_of_both [] ys = refl
first_of_both (c ∷ xs) ys =
    ap (λ (r : Reply). check c.holds c.refusal then r) (first_of_both xs ys) ∙ sym (then_assoc (check c.holds c.refusal) (first_of xs) (first_of ys))

module _ (xs ys : List Check) where
  -- where those before are done, the rest decides, and otherwise they do
  pub first_passes : first_of xs ≡ Ok tt → first_of (xs ++ ys) ≡ first_of ys
  first_passes e = first_of_both xs ys ∙ done_then e

  pub first_refuses : {r : Refusal} → first_of xs ≡ Err r → first_of (xs ++ ys) ≡ Err r
  first_refuses e = first_of_both xs ys ∙ refused_then (first_of ys) e

  -- where the rest is done, those before decide
  pub rest_done : first_of ys ≡ Ok tt → first_of (xs ++ ys) ≡ first_of xs
  rest_done e = first_of_both xs ys ∙ sym (done_after (first_of xs) e)

  -- both are done where the whole is
  pub both_done : first_of (xs ++ ys) ≡ Ok tt → (first_of xs ≡ Ok tt) × (first_of ys ≡ Ok tt)
  both_done e = (then_is_done (first_of xs) (first_of ys)).0 (sym (first_of_both xs ys) ∙ e)

-- a check that holds decides nothing
pub held_out : (xs : List Check) (c : Check) (ys : List Check) → c.holds ≡ true → first_of (xs ++ (c ∷ ys)) ≡ first_of (xs ++ ys)
unfolding first_of
held_out [] c ys e = done_then ((check_is_done c.holds c.refusal).1 e)
held_out (x ∷ xs) c ys e = ap (λ (r : Reply). check x.holds x.refusal then r) (held_out xs c ys e)

-- ---- done

-- each test of a list holds, one after the other
unfoldable pub Each : List Check → Type 0
Each [] = Unit
Each (c ∷ cs) = (c.holds ≡ true) × Each cs

pub each_holds : (cs : List Check) → first_of cs ≡ Ok tt → Each cs
unfolding first_of Each
each_holds [] e = tt
each_holds (c ∷ cs) e =
    let (here, rest) = (then_is_done (check c.holds c.refusal) (first_of cs)).0 e in
    ((check_is_done c.holds c.refusal).0 here, each_holds cs rest)

pub each_done : (cs : List Check) → Each cs → first_of cs ≡ Ok tt
unfolding first_of Each
each_done [] h = refl
each_done (c ∷ cs) h =
    (then_is_done (check c.holds c.refusal) (first_of cs)).1 ((check_is_done c.holds c.refusal).1 h.0, each_done cs h.1)

each_is_all : (cs : List Check) → Each cs → all_hold cs ≡ true
unfolding every Each
each_is_all [] h = refl
each_is_all (c ∷ cs) h = and_true h.0 (each_is_all cs h.1)

all_is_each : (cs : List Check) → all_hold cs ≡ true → Each cs
unfolding every Each
all_is_each [] e = tt
all_is_each (c ∷ cs) e = let (here, rest) = and_both _ _ e in (here, all_is_each cs rest)

pub done_exactly : (cs : List Check) → (first_of cs ≡ Ok tt) ↔ (all_hold cs ≡ true)
done_exactly cs = (λ e. each_is_all cs (each_holds cs e), λ e. each_done cs (all_is_each cs e))

-- ---- the first that fails

same_refusal : {r s : Refusal} → ◌≡◌ {A = Reply} (Err s) (Err r) → s ≡ r
same_refusal e = cc

first_refused : (cs : List Check) (r : Refusal) → first_of cs ≡ Err r → IsFirstToFail cs r
unfolding first_of check ◌then◌ every
first_refused [] r e = absurd (refused_is_not_done (sym e))
first_refused (c ∷ cs) r e = go c.holds refl e (first_refused cs r)
  where
    go : (b : Bool) → c.holds ≡ b → (check b c.refusal then first_of cs) ≡ Err r → (first_of cs ≡ Err r → IsFirstToFail cs r) →
        IsFirstToFail (c ∷ cs) r
    go false h e later = record { before = []; after = cs; in_turn = ap₂ (λ (s : Refusal) (b : Bool). s unless b ∷ cs) (same_refusal e) h; hold_before = refl }
    go true h e later =
        let rest = later e in
        record {
          before = c ∷ rest.before;
          after = rest.after;
          in_turn = ap (λ (l : List Check). c ∷ l) rest.in_turn;
          hold_before = and_true h rest.hold_before;
        }

refused_first : (cs : List Check) (r : Refusal) → IsFirstToFail cs r → first_of cs ≡ Err r
unfolding first_of check ◌then◌
refused_first cs r h =
    ap first_of h.in_turn ∙ first_passes h.before (r unless false ∷ h.after) ((done_exactly h.before).1 h.hold_before)

pub first_is_reply : (cs : List Check) → IsReply cs (first_of cs)
first_is_reply cs = record { done = done_exactly cs; refused = λ r. (first_refused cs r, refused_first cs r) }

-- no other is
pub reply_exactly : (cs : List Check) (x : Reply) → IsReply cs x ↔ (x ≡ first_of cs)
reply_exactly cs x = (go (first_of cs) refl, λ e. rw e (first_is_reply cs))
  where
    go : (y : Reply) → first_of cs ≡ y → IsReply cs x → x ≡ y
    go (Ok tt) e h = h.done.1 ((done_exactly cs).0 e)
    go (Err r) e h = (h.refused r).1 (first_refused cs r e)

-- ---- which refusals it can give

-- what holds of every check's refusal holds of the reply's
pub first_gives : (f : Refusal → Bool) (cs : List Check) → every (λ c. f c.refusal) cs ≡ true → Gives f (first_of cs)
unfolding first_of every
first_gives f [] e = gives_done
first_gives f (c ∷ cs) e = let (here, rest) = and_both _ _ e in gives_then (gives_check c.holds c.refusal here) (first_gives f cs rest)

-- a number that no other check has is told exactly where all before its check hold and that one fails
module _ (xs : List Check) (c : Check) (ys : List Check) (r : Refusal) where
  abbrev others : Refusal → Bool
  others = other (told r).number

  module _ (only-before : every (λ d. others d.refusal) xs ≡ true) (only-after : every (λ d. others d.refusal) ys ≡ true) where
    told_there : first_of (xs ++ (c ∷ ys)) ≡ Err r → (first_of xs ≡ Ok tt) × ((c.holds ≡ false) × (c.refusal ≡ r))
    told_there e = before (first_of xs) refl (sym (first_of_both xs (c ∷ ys)) ∙ e)
      where
        never : {x : Reply} → Gives others x → x ≡ Err r → ⊥
        never {x} g is = other_is_not r (gives_refusal {f = others} {r = r} (rw is at g))

        here : (b : Bool) → c.holds ≡ b → (check b c.refusal then first_of ys) ≡ Err r → (c.holds ≡ false) × (c.refusal ≡ r)
        here true h e = unfold check ◌then◌ in absurd (never (first_gives others ys only-after) e)
        here false h e = unfold check ◌then◌ in (h, same_refusal e)

        before : (x : Reply) → first_of xs ≡ x → (x then first_of (c ∷ ys)) ≡ Err r → (first_of xs ≡ Ok tt) × ((c.holds ≡ false) × (c.refusal ≡ r))
        before (Ok tt) h e = unfold ◌then◌ first_of in (h, here c.holds refl e)
        before (Err s) h e = unfold ◌then◌ in absurd (never (rw h at (first_gives others xs only-before)) e)

    pub told_exactly : (first_of (xs ++ (c ∷ ys)) ≡ Err r) ↔ ((all_hold xs ≡ true) × ((c.holds ≡ false) × (c.refusal ≡ r)))
    told_exactly = (
      λ e. let (x, at) = told_there e in ((done_exactly xs).0 x, at),
      λ h.
          first_passes xs (c ∷ ys) ((done_exactly xs).1 h.0)
          ∙ unfold first_of in sym (fails_first (first_of ys) h.1.0) ∙ ap Err h.1.1,
    )
