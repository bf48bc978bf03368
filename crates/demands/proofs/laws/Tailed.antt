-- A table that has one tail from every state: a frame over it with as many tail sections and two zero ends is refused by the checks alone, in the coder and in the
-- frame decoder.
-- Assumes nothing.
use Rattle.std.specs.Prelude.{◌≡◌, ℕ, ◌<◌, Ok}
use Rattle.std.proofs.Math.Path.{refl}
use Rattle.std.proofs.Math.Bool.{true}
use mathlib.Core.List.{List, ◌++◌}
use Rattle.std.proofs.Math.Option.{Option, none, some, map, bind}
use Rattle.lists.specs.Lists.{found}
use Rattle.refusal.specs.Refusals.{first_of}
use Rattle.trellis.specs.declared.End.TheVariants.{Zero}
use Rattle.trellis.specs.Table.{Table, shaped, branched}
use Rattle.trellis.specs.Path.{TrellisPath, finish}
use Rattle.trellis.specs.Best.{IsBits}
use Rattle.trellis.specs.laws.Branches.{shaped_is, next_below}
use Rattle.trellis.proofs.laws.Returning.{LeadsBack, ends_in_state}
use Rattle.frame.specs.Interleaver.{interleave}
use Rattle.frame.proofs.laws.Checked.{checked}
use Rattle.coder.specs.Coder.{tail_from, coded_path, sent_for, EncodeCall, encode_lent_checks}
use Rattle.coder.specs.laws.Bits.{bits_tested, bits_interleaved}
use Rattle.coder.specs.laws.Encoded.{codable}
use Rattle.coder.specs.laws.TailPaths.{no_tail_lem}
use Rattle.decoder.specs.Decoder.{DecodeCall, DecodeLent}
use Rattle.decoder.specs.laws.Decodable.{walked_back}
use Rattle.demands.specs.Codes.{HasOneTail, IsTailed, AlwaysCodes, AlwaysDecodes}
use Rattle.demands.proofs.laws.Always.{decodes_by_paths, codes_by_paths}

module _ (t : Table) (n : ℕ) (shape : shaped t ≡ true) (branches : branched t ≡ true) (w : HasOneTail t n) where
  back : LeadsBack t n
  back = record {
    some_state = (shaped_is t shape).some_state;
    stays = λ s b state bit. next_below t s b state bit shape branches;
    way = w.tail;
    leads = w.leads;
  }

  -- ---- the frame decoder

  module _ (c : DecodeCall) (l : DecodeLent) (is : IsTailed t n c.frame) where
    pub always_decodes : AlwaysDecodes c l
    always_decodes = decodes_by_paths c l (λ passed. walked_back c.frame is.first is.second (rw (is.table, is.tail) back))

  -- ---- the coder

  tail_there : (s : ℕ) → s < t.states → found (tail_from t s n) ≡ true
  unfolding found
  tail_there s state = go (tail_from t s n) refl
    where
      go : (o : Option (List ℕ)) → tail_from t s n ≡ o → found o ≡ true
      go none e = absurd ((no_tail_lem t s n).0 e (w.tail s) (w.leads s state))
      go (some p) e = refl

  -- inputs that are bits have their path
  has_path : (k : ℕ) (xs : List ℕ) → IsBits k xs → found (coded_path t Zero n xs) ≡ true
  unfolding coded_path
  has_path k xs bits = go (tail_from t (finish t 0 xs) n) (tail_there (finish t 0 xs) (ends_in_state t n back xs bits))
    where
      go : (o : Option (List ℕ)) → found o ≡ true → found (map {B = TrellisPath} (λ rest. record { start = 0; bits = xs ++ rest }) o) ≡ true
      go = unfold found in elim [ none ↦ λ e. e | some p ↦ λ e. refl ]

  module _ (c : EncodeCall) (sent : List ℕ) (is : IsTailed t n c.frame) where
    -- both coders have one
    both_tailed : first_of (encode_lent_checks c sent) ≡ Ok tt → found (sent_for c.frame c.message) ≡ true
    unfolding sent_for bind
    both_tailed passed =
        let f = c.frame in
        let lent = codable c sent passed in
        let bits : IsBits f.bits c.message = rw lent.message_long at (bits_tested c.message lent.bits) in
        let interleaved = bits_interleaved (checked f lent.framed).permutes bits in
        rw (is.table, is.tail, is.first, is.second)
        (go (coded_path t Zero n c.message) (coded_path t Zero n (interleave 0 f.pattern c.message)) _
        (has_path f.bits c.message bits) (has_path f.bits _ interleaved))
      where
        go : (o i : Option TrellisPath) (h : TrellisPath → TrellisPath → List ℕ) → found o ≡ true → found i ≡ true →
            found (bind o (λ p. map (h p) i)) ≡ true
        go none i h e g = unfold found in e
        go (some p) none h e g = unfold found in g
        go (some p) (some q) h e g = unfold found in refl

    pub always_codes : AlwaysCodes c sent
    always_codes = codes_by_paths c sent both_tailed
