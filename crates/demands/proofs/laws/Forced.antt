-- 13 in the words of document 01: a pass calls a message position forced exactly where its coder has a path and a message position has an empty class;
-- and 13 is given exactly where each coder has a path and either pass of an iteration does. So what a pass says of it in one iteration it says in every.
-- Assumes nothing.
use Rattle.std.specs.Prelude.{◌≡◌, ◌↔◌, ◌⊎◌, List, ℤ, Err}
use Rattle.std.proofs.Math.Path.{refl}
use Rattle.std.proofs.Common.{inl, inr, ⊎_elim}
use Rattle.std.proofs.Math.Option.{Option, none, some}
use Prim.Native.Nat.{ℕ, zero, suc, ◌-◌, ◌<◌}
use native.Mathlib.Omega.{arith}
use Rattle.std.proofs.Math.ListN.{get_or}
use Rattle.refusal.specs.declared.Refusal.TheVariants.{ForcedPosition}
use Rattle.trellis.specs.declared.End.{End}
use Rattle.trellis.specs.declared.Outcome.{Outcome}
use Rattle.trellis.specs.declared.Outcome.TheVariants.{Free, Forced}
use Rattle.frame.specs.Frame.{Frame, sections_of}
use Rattle.decoder.specs.Decoder.{DecodeCall, DecodeLent, DecodeResult}
use Rattle.demands.specs.Meaning.{SomePath, IsEmptyClass, IsFree, IsForced, IsNone, Means}
use Rattle.demands.specs.Decoding.{Pass, IsPass, BothPaths, SomeEmpty, EitherEmpty, IsDecoding}

-- a message position that a pass calls forced
pub record SomeForced (f : Frame) (p : Pass) : Type 0 where
  pub position : ℕ
  pub in_message : position < f.bits
  pub bit : ℕ
  pub forced : p.said position ≡ some (Forced bit)

module _ (f : Frame) (end : End) (channel : List ℤ) (p : Pass) (is : IsPass f end channel p) where
  means_at : (k : ℕ) → k < f.bits → Means f.table p.values end (sections_of f end) k (p.said k)
  means_at k h = is.means k (omega arith)

  called_forced : SomePath f.table end (sections_of f end) → SomeEmpty f end → SomeForced f p
  unfolding Means
  called_forced some-path s = go (p.said s.position) refl (means_at s.position s.in_message)
    where
      -- the path has a bit at the position, and so is in a class
      on_some_class : (b : ℕ) → get_or some-path.path.bits s.position 0 ≡ b → b < 2 → IsNone f.table end (sections_of f end) s.position → ⊥
      on_some_class zero e l h = h.no_zeros.empty some-path.path (record { path = some-path.is_path; bit = e })
      on_some_class (suc zero) e l h = h.no_ones.empty some-path.path (record { path = some-path.is_path; bit = e })
      on_some_class (suc (suc b)) e l h = omega arith

      has_both : (m : ℤ) (b : ℕ) → b < 2 → IsFree f.table p.values end (sections_of f end) s.position m →
          IsEmptyClass f.table end (sections_of f end) s.position b → ⊥
      has_both m zero l h e = e.empty _ h.best_zero.in_class
      has_both m (suc zero) l h e = e.empty _ h.best_one.in_class
      has_both m (suc (suc b)) l h e = omega arith

      go : (o : Option Outcome) → p.said s.position ≡ o → Means f.table p.values end (sections_of f end) s.position o → SomeForced f p
      go none e h = absurd (on_some_class _ refl (some-path.is_path.bits.bit s.position) h)
      go (some (Free m)) e h = absurd (has_both m s.bit s.is_bit h s.empty)
      go (some (Forced b)) e h = record { position = s.position; in_message = s.in_message; bit = b; forced = e }

  forced_is : SomeForced f p → SomePath f.table end (sections_of f end) × SomeEmpty f end
  unfolding Means
  forced_is s =
      let h : IsForced f.table p.values end (sections_of f end) s.position s.bit = rw s.forced at (means_at s.position s.in_message) in (
        record { path = h.has.path; is_path = h.has.in_class.path },
        record { position = s.position; in_message = s.in_message; bit = 1 - s.bit; is_bit = omega arith; empty = h.other },
      )

  -- a pass calls a message position forced exactly where there is a path and a class is empty
  pub forced_in_pass : (SomePath f.table end (sections_of f end) × SomeEmpty f end) ↔ SomeForced f p
  forced_in_pass = (λ h. called_forced h.0 h.1, forced_is)

-- 13 exactly where each coder has a path, and pass 1 of an iteration or pass 2 of it calls a message position forced
module _ (c : DecodeCall) (l : DecodeLent) (x : DecodeResult) (is : IsDecoding c l x) (i : ℕ) (h : i < c.iterations) where
  abbrev SomePassForced : Type 0
  SomePassForced = SomeForced c.frame (is.first i) ⊎ SomeForced c.frame (is.second i)

  in_first : (SomePath c.frame.table c.frame.first (sections_of c.frame c.frame.first) × SomeEmpty c.frame c.frame.first)
      ↔ SomeForced c.frame (is.first i)
  in_first = forced_in_pass c.frame c.frame.first _ (is.first i) (is.iterations.pass_1 i h)

  in_second : (SomePath c.frame.table c.frame.second (sections_of c.frame c.frame.second) × SomeEmpty c.frame c.frame.second)
      ↔ SomeForced c.frame (is.second i)
  in_second = forced_in_pass c.frame c.frame.second _ (is.second i) (is.iterations.pass_2 i h)

  called : BothPaths c.frame → EitherEmpty c.frame → SomePassForced
  called paths = ⊎_elim (λ e. inl (in_first.0 (paths.0, e))) (λ e. inr (in_second.0 (paths.1, e)))

  is_empty_lem : SomePassForced → EitherEmpty c.frame
  is_empty_lem = ⊎_elim (λ s. inl (in_first.1 s).1) (λ s. inr (in_second.1 s).1)

  pub refused_by_passes : (x.reply ≡ Err ForcedPosition) ↔ (BothPaths c.frame × SomePassForced)
  refused_by_passes =
      (λ e. let (paths, empty) = is.forced.0 e in (paths, called paths empty), λ s. is.forced.1 (s.0, is_empty_lem s.1))
