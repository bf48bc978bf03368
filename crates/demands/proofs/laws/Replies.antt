-- The frame decoder's reply by its paths: 12 exactly where not each coder has one, 13 exactly where each has and a message position is forced in either,
-- and done otherwise; and what each of these replies leaves of the lists.
-- Assumes nothing.
use Rattle.std.specs.Prelude.{◌≡◌, ◌↔◌, ◌⊎◌, Bool, not, ◌||◌, pos, length, replicate, Ok, Err}
use Rattle.std.proofs.Math.Path.{refl}
use Rattle.std.proofs.Common.{sym, ◌∙◌, inl, inr, arith}
use Rattle.std.proofs.Math.Logic.{⊎_elim}
use Rattle.std.proofs.Math.Bool.{true, false}
use Rattle.std.proofs.lemmas.Bool.{false≢true}
use Prim.Native.Nat.{ℕ, zero, suc, ◌<◌}
use Rattle.lists.specs.Lists.{is_empty, any, upto}
use Rattle.lists.specs.laws.Every.{any_upto_at, at_any_upto}
use Rattle.lists.specs.laws.Tests.{or_cases}
use Rattle.refusal.specs.declared.Refusal.TheVariants.{NoPath, ForcedPosition}
use Rattle.refusal.specs.Refusals.{Reply, check, ◌then◌, first_of}
use Rattle.refusal.specs.laws.Checks.{refused_is_not_done}
use Rattle.refusal.specs.laws.InTurn.{first_passes}
use Rattle.trellis.specs.declared.End.{End}
use Rattle.trellis.specs.Path.{class}
use Rattle.trellis.specs.Outcome.{pathless, forced}
use Rattle.frame.specs.Frame.{Frame, sections_of, tail1, tail2, sections1, sections2}
use Rattle.decoder.specs.Decoder.{DecodeCall, DecodeLent, decode_lent_checks, both_walked, both_free, decode_path_checks, decode_checks, decode_settled, decode}
use Rattle.decoder.specs.laws.Settled.{walked_clears}
use Rattle.refusal.specs.laws.Kept.{after_refusal}
use Rattle.demands.proofs.laws.Told.{Tells, path_told, class_empty}
use Rattle.demands.specs.Decoding.{FrameListsKept, BothPaths, SomeEmpty, EitherEmpty}

-- ---- paths and classes

module _ (f : Frame) (end : End) where
  empty_forces : (k b : ℕ) → b < 2 → is_empty (class f.table end (sections_of f end) k b) ≡ true → forced f.table end (sections_of f end) k ≡ true
  unfolding forced
  empty_forces k zero h e = rw e
  empty_forces k (suc zero) h e = rw e (or_right (is_empty (class f.table end (sections_of f end) k 0)))
    where
      or_right : (a : Bool) → (a || true) ≡ true
      or_right true = refl
      or_right false = refl
  empty_forces k (suc (suc b)) h e = absurd (omega arith)

  forced_empty : (k : ℕ) → k < f.bits → forced f.table end (sections_of f end) k ≡ true → SomeEmpty f end
  unfolding forced
  forced_empty k h e = ⊎_elim (at 0 (omega arith)) (at 1 (omega arith)) (or_cases _ _ e)
    where
      at : (b : ℕ) → b < 2 → is_empty (class f.table end (sections_of f end) k b) ≡ true → SomeEmpty f end
      at b l e = record { position = k; in_message = h; bit = b; is_bit = l; empty = (class_empty f.table end (sections_of f end) k b).0 e }

  -- where no class of a message position is empty, no message position is forced
  pub unforced : (SomeEmpty f end → ⊥) → (k : ℕ) → k < f.bits → forced f.table end (sections_of f end) k ≡ false
  unforced h k l = go (forced f.table end (sections_of f end) k) refl
    where
      go : (b : Bool) → forced f.table end (sections_of f end) k ≡ b → b ≡ false
      go true e = absurd (h (forced_empty k l e))
      go false e = refl

  forced_told : Tells (any (forced f.table end (sections_of f end)) (upto f.bits)) (SomeEmpty f end)
  forced_told = record {
    yes = λ e. let (k, h, p) = any_upto_at (forced f.table end (sections_of f end)) f.bits e in forced_empty k h p;
    no = λ e s.
        false≢true
        (sym e
        ∙ at_any_upto (forced f.table end (sections_of f end)) f.bits s.position s.in_message
        (empty_forces s.position s.bit s.is_bit ((class_empty f.table end (sections_of f end) s.position s.bit).1 s.empty)));
  }

-- ---- two coders

both_told : {P Q : Type 0} (b d : Bool) → Tells (not b) P → Tells (not d) Q → Tells (not (b || d)) (P × Q)
both_told true d t u = record { yes = λ e. absurd (false≢true e); no = λ e p. t.no refl p.0 }
both_told false true t u = record { yes = λ e. absurd (false≢true e); no = λ e p. u.no refl p.1 }
both_told false false t u = record { yes = λ e. (t.yes refl, u.yes refl); no = λ e. absurd (false≢true (sym e)) }

either_told : {P Q : Type 0} (b d : Bool) → Tells b P → Tells d Q → Tells (b || d) (P ⊎ Q)
either_told true d t u = record { yes = λ e. inl (t.yes refl); no = λ e. absurd (false≢true (sym e)) }
either_told false true t u = record { yes = λ e. inr (u.yes refl); no = λ e. absurd (false≢true (sym e)) }
either_told false false t u = record { yes = λ e. absurd (false≢true e); no = λ e. ⊎_elim (t.no refl) (u.no refl) }

module _ (f : Frame) where
  paths_told : Tells (not (pathless f.table f.first (sections1 f) || pathless f.table f.second (sections2 f))) (BothPaths f)
  unfolding sections1 sections2 tail1 tail2
  paths_told =
      let n = sections_of f f.first in
      let m = sections_of f f.second in
      both_told (pathless f.table f.first n) (pathless f.table f.second m) (path_told f.table f.first n) (path_told f.table f.second m)

  empty_told : Tells
      (any (forced f.table f.first (sections1 f)) (upto f.bits) || any (forced f.table f.second (sections2 f)) (upto f.bits))
      (EitherEmpty f)
  unfolding sections1 sections2 tail1 tail2
  empty_told = either_told _ _ (forced_told f f.first) (forced_told f f.second)

-- ---- the reply

-- what a reply says, where P is that each coder has a path, and Q that a message position is forced
pub record Says (r : Reply) (P Q : Type 0) : Type 0 where
  pub no_path : (r ≡ Err NoPath) ↔ (P → ⊥)
  pub forced : (r ≡ Err ForcedPosition) ↔ (P × Q)
  pub done : (r ≡ Ok tt) ↔ (P × (Q → ⊥))

neither_refusal : ◌≡◌ {A = Reply} (Err NoPath) (Err ForcedPosition) → ⊥
neither_refusal e = let z : ◌≡◌ {A = ℕ} 0 1 = cc in omega arith

reply_says : {P Q : Type 0} (b d : Bool) → Tells b P → Tells d Q → Says (check b NoPath then check (not d) ForcedPosition then Ok tt) P Q
unfolding check ◌then◌
reply_says false d t u =
    let none = t.no refl in
    record {
      no_path = (λ e. none, λ e. refl);
      forced = (λ e. absurd (neither_refusal e), λ e. absurd (none e.0));
      done = (λ e. absurd (refused_is_not_done e), λ e. absurd (none e.0));
    }
reply_says true true t u =
    let path = t.yes refl in
    let empty = u.yes refl in
    record {
      no_path = (λ e. absurd (neither_refusal (sym e)), λ e. absurd (e path));
      forced = (λ e. (path, empty), λ e. refl);
      done = (λ e. absurd (refused_is_not_done e), λ e. absurd (e.1 empty));
    }
reply_says true false t u =
    let path = t.yes refl in
    let free = u.no refl in
    record {
      no_path = (λ e. absurd (refused_is_not_done (sym e)), λ e. absurd (e path));
      forced = (λ e. absurd (refused_is_not_done (sym e)), λ e. absurd (free e.1));
      done = (λ e. (path, free), λ e. refl);
    }

-- one of the three it always is
ways : {P Q : Type 0} (b d : Bool) → Tells b P → Tells d Q → (P → ⊥) ⊎ ((P × Q) ⊎ (P × (Q → ⊥)))
ways false d t u = inl (t.no refl)
ways true true t u = inr (inl (t.yes refl, u.yes refl))
ways true false t u = inr (inr (t.yes refl, u.no refl))

pub frame_ways : (f : Frame) → (BothPaths f → ⊥) ⊎ ((BothPaths f × EitherEmpty f) ⊎ (BothPaths f × (EitherEmpty f → ⊥)))
frame_ways f = ways _ _ (paths_told f) (empty_told f)

module _ (c : DecodeCall) (l : DecodeLent) (passed : first_of (decode_lent_checks c l) ≡ Ok tt) where
  reply_is : (decode c l).reply ≡ first_of (decode_path_checks c.frame)
  unfolding decode decode_settled decode_checks
  reply_is = first_passes (decode_lent_checks c l) (decode_path_checks c.frame) passed

  pub decode_says : Says (decode c l).reply (BothPaths c.frame) (EitherEmpty c.frame)
  unfolding decode_path_checks first_of both_walked both_free
  decode_says = rw reply_is (reply_says _ _ (paths_told c.frame) (empty_told c.frame))

  -- 12 and 13 clear the working list, as success does
  pub decode_clears : (decode c l).lists.work ≡ replicate (length l.work) (pos 0)
  unfolding decode decode_settled decode_checks
  decode_clears = rw (first_passes (decode_lent_checks c l) (decode_path_checks c.frame) passed) (walked_clears c.frame l.work)

-- any refusal keeps the result lists
pub decode_keeps : (c : DecodeCall) (l : DecodeLent) → ((decode c l).reply ≡ Ok tt → ⊥) → FrameListsKept l (decode c l).lists
unfolding decode decode_settled
decode_keeps c l h = record { bits = after_refusal h _ _; margins = after_refusal h _ _; extrinsics = after_refusal h _ _ }
