-- What a coder takes is its path by its end: with its own inputs no lower state starts a path, and no tail that comes before its own makes one.
-- Assumes nothing.
use Rattle.std.proofs.Math.Path.{◌≡◌, refl, ap}
use Rattle.std.proofs.Common.{sym, subst, ◌∙◌, arith, length-append, get_or-append-add}
use Rattle.std.specs.Prelude.{◌↔◌, ◌≢◌, List, [], ◌∷◌, ◌++◌, ℕ, ◌+◌, ◌<◌, length}
use Rattle.std.proofs.lemmas.Bool.{false≢true}
use Rattle.std.proofs.Math.Option.{Option, none, some, map-eq-some_iff, map-eq-none_iff, some-ne-none}
use Rattle.lists.specs.Lists.{found}
use Rattle.trellis.specs.declared.End.{End}
use Rattle.trellis.specs.declared.End.TheVariants.{Zero, Open, Ring}
use Rattle.trellis.specs.Table.{Table}
use Rattle.trellis.specs.Path.{TrellisPath, finish}
use Rattle.trellis.specs.Best.{IsBits, IsTerminating, IsPath}
use Rattle.trellis.proofs.laws.Returning.{finish_append, bits_append}
use Rattle.frame.specs.Frame.{Frame, sections_of, tail_of}
use Rattle.coder.specs.Coder.{tail_from, ring_start, coded_path}
use Rattle.coder.specs.Tail.{Before, IsFirst}
use Rattle.coder.specs.laws.TailPaths.{no_tail_lem, tail_exactly}
use Rattle.coder.specs.laws.CodedPaths.{coded_is_path, ring_exactly, ring_none}
use Rattle.demands.specs.Coded.{SomeOwnPath, IsCoderPath}
use Rattle.demands.proofs.laws.Told.{Tells}

-- ---- the first tail

-- a path from state 0 to state 0 has a tail that leads back
tail_leads_back : (t : Table) (k n : ℕ) (xs q : List ℕ) → length xs ≡ k → IsPath t Zero (k + n) (record { start = 0; bits = xs ++ q }) →
    IsTerminating t (finish t 0 xs) n q
tail_leads_back t k n xs q long is = record {
  bits = record {
    size = omega (arith, is.bits.size, length-append xs q);
    bit = λ i. rw (get_or-append-add xs q i 0) at (is.bits.bit (length xs + i));
  };
  ends = sym (finish_append t 0 xs q) ∙ is.ends.1;
}

nothing_before : (q : List ℕ) → Before q [] → ⊥
nothing_before [] b = b
nothing_before (x ∷ q) b = b

no_tail_after : (xs : List ℕ) → xs ≡ xs ++ []
no_tail_after [] = refl
no_tail_after (x ∷ xs) = ap (λ (l : List ℕ). x ∷ l) (no_tail_after xs)

-- ---- every end

module _ (f : Frame) (some_state : 0 < f.table.states) (xs : List ℕ) (own : IsBits f.bits xs) where
  -- the tail of a coder that has none
  untailed : (end : End) (s : ℕ) → IsPath f.table end (sections_of f end) (record { start = s; bits = xs }) →
      ((r : ℕ) → r < s → IsPath f.table end (sections_of f end) (record { start = r; bits = xs }) → ⊥) →
      IsCoderPath f end xs (record { start = s; bits = xs })
  untailed end s path lowest = record {
    own = own;
    tail = [];
    whole = no_tail_after xs;
    is_path = path;
    lowest_start = lowest;
    first_tail = λ q b h. nothing_before q b;
  }

  pub coder_path_lem : (end : End) (p : TrellisPath) → coded_path f.table end f.tail xs ≡ some p → IsCoderPath f end xs p
  unfolding coded_path tail_of
  coder_path_lem end p e = go end e (coded_is_path f.table end f.bits f.tail xs p some_state own e)
    where
      go : (end : End) → coded_path f.table end f.tail xs ≡ some p → IsPath f.table end (sections_of f end) p → IsCoderPath f end xs p
      go Zero e path =
          let from = finish f.table 0 xs in
          let (rest, found, is) =
          (map-eq-some_iff {B = TrellisPath} (λ rest. record { start = 0; bits = xs ++ rest }) (tail_from f.table from f.tail)).0 e in
          let first = (tail_exactly f.table from f.tail rest).0 found in
          rw (← is) (record {
            own = own;
            tail = rest;
            whole = refl;
            is_path = rw (← is) at path;
            lowest_start = λ s l h. omega arith;
            first_tail = λ q b h. first.first q (tail_leads_back f.table f.bits f.tail xs q own.size h) b;
          })
      go Open e path =
          let is : ◌≡◌ {A = TrellisPath} (record { start = 0; bits = xs }) p = cc in
          rw (← is) (untailed Open 0 (rw (← is) at path) (λ r l h. omega arith))
      go Ring e path =
          let (s, found, is) = (map-eq-some_iff {B = TrellisPath} (λ s. record { start = s; bits = xs }) (ring_start f.table xs)).0 e in
          rw (← is) (untailed Ring s (rw (← is) at path) (λ r l h. ((ring_exactly f.table xs s).0 found).lower r l h.ends))

  -- ---- and no other is

  nothing_left : (tail : List ℕ) → length tail ≡ 0 → tail ≡ []
  nothing_left [] e = refl
  nothing_left (x ∷ tail) e = absurd (omega arith)

  module _ (end : End) (p : TrellisPath) (tail : List ℕ) (whole : p.bits ≡ xs ++ tail) (path : IsPath f.table end (sections_of f end) p) where
    -- without a tail the bits are the inputs
    bits_own : tail_of end f.tail ≡ 0 → xs ≡ p.bits
    bits_own e =
        let none_left : length tail ≡ 0 = omega (arith, own.size, path.bits.size, ap length whole, length-append xs tail, e) in
        no_tail_after xs ∙ ap (λ (l : List ℕ). xs ++ l) (sym (nothing_left tail none_left)) ∙ sym whole

  -- the path that starts in s and has the bits bs
  is_same : (p : TrellisPath) (s : ℕ) (bs : List ℕ) → p.start ≡ s → p.bits ≡ bs → p ≡ record { start = s; bits = bs }
  is_same p s bs e g = λ i. record { start = e i; bits = g i }

  first_of_lem : (p : TrellisPath) → IsCoderPath f Zero xs p → (rest : List ℕ) → p ≡ record { start = 0; bits = xs ++ rest } →
      ((q : List ℕ) → Before q rest → IsPath f.table Zero (f.bits + f.tail) (record { start = 0; bits = xs ++ q }) → ⊥) →
      IsFirst f.table (finish f.table 0 xs) f.tail rest
  unfolding tail_of
  first_of_lem p coder rest same none_before = record {
    leads = tail_leads_back f.table f.bits f.tail xs rest own.size (subst (IsPath f.table Zero (f.bits + f.tail)) same coder.is_path);
    first = λ q h b.
        none_before q b (record { start = some_state; bits = bits_append own h.bits; ends = (refl, finish_append f.table 0 xs q ∙ h.ends) });
  }

  pub coder_path_only : (end : End) (p : TrellisPath) → IsCoderPath f end xs p → coded_path f.table end f.tail xs ≡ some p
  unfolding coded_path tail_of
  coder_path_only Zero p coder =
      let start : p.start ≡ 0 = coder.is_path.ends.0 in
      let same = is_same p 0 (xs ++ coder.tail) start coder.whole in
      let first = first_of_lem p coder coder.tail same (rw start at coder.first_tail) in
      rw ((tail_exactly f.table (finish f.table 0 xs) f.tail coder.tail).1 first) (ap {B = Option TrellisPath} some (sym same))
  coder_path_only Open p coder =
      ap {B = Option TrellisPath} some (sym (is_same p 0 xs coder.is_path.ends (sym (bits_own Open p coder.tail coder.whole coder.is_path refl))))
  coder_path_only Ring p coder =
      let bits = bits_own Ring p coder.tail coder.whole coder.is_path refl in
      let returns : finish f.table p.start xs ≡ p.start = rw (← bits) at coder.is_path.ends in
      let lower : (r : ℕ) → r < p.start → finish f.table r xs ≢ r = λ r l e.
      coder.lowest_start r l (record { start = omega (arith, coder.is_path.start); bits = coder.is_path.bits; ends = rw (← bits) e }) in
      rw ((ring_exactly f.table xs p.start).1 (record { inside = coder.is_path.start; returns = returns; lower = lower }))
      (ap {B = Option TrellisPath} some (sym (is_same p p.start xs refl (sym bits))))

  -- what a coder takes is the only path that the statement allows
  pub coder_path_exactly : (end : End) (p : TrellisPath) → (coded_path f.table end f.tail xs ≡ some p) ↔ IsCoderPath f end xs p
  coder_path_exactly end p = (coder_path_lem end p, coder_path_only end p)

  -- ---- where a coder has none

  none_own : (end : End) → coded_path f.table end f.tail xs ≡ none → SomeOwnPath f end xs → ⊥
  unfolding coded_path tail_of
  none_own Zero e h =
      let from = finish f.table 0 xs in
      let same = is_same h.path 0 (xs ++ h.tail) h.is_path.ends.0 h.whole in
      (no_tail_lem f.table from f.tail).0
      ((map-eq-none_iff {B = TrellisPath} (λ rest. record { start = 0; bits = xs ++ rest }) (tail_from f.table from f.tail)).0 e) h.tail
      (tail_leads_back f.table f.bits f.tail xs h.tail own.size (subst (IsPath f.table Zero (f.bits + f.tail)) same h.is_path))
  none_own Open e h = some-ne-none _ e
  none_own Ring e h =
      let bits = bits_own Ring h.path h.tail h.whole h.is_path refl in
      let returns : finish f.table h.path.start xs ≡ h.path.start = rw (← bits) at h.is_path.ends in
      let missing = (map-eq-none_iff {B = TrellisPath} (λ s. record { start = s; bits = xs }) (ring_start f.table xs)).0 e in
      (ring_none f.table xs).0 missing h.path.start h.is_path.start returns

  -- whether a coder finds a path tells whether there is one
  pub own_told : (end : End) → Tells (found (coded_path f.table end f.tail xs)) (SomeOwnPath f end xs)
  unfolding found
  own_told end = go (coded_path f.table end f.tail xs) refl
    where
      go : (o : Option TrellisPath) → coded_path f.table end f.tail xs ≡ o → Tells (found o) (SomeOwnPath f end xs)
      go none e = record { yes = λ n. absurd (false≢true n); no = λ n. none_own end e }
      go (some p) e =
          let coder = coder_path_lem end p e in
          record {
            yes = λ n. record { path = p; tail = coder.tail; whole = coder.whole; is_path = coder.is_path };
            no = λ n. absurd (false≢true (sym n));
          }
