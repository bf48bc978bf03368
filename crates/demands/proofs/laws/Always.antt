-- A call whose paths are there whenever its checks pass is refused by the checks alone: the frame decoder's never by 12 or 13, the coder's never by 14.
-- Assumes nothing.
use Rattle.std.specs.Prelude.{◌≡◌, refl, true, List, ◌++◌, ℕ, Ok, Err}
use Rattle.std.proofs.Common.{sym, ◌∙◌, arith}
use Rattle.lists.specs.Lists.{every, found}
use Rattle.refusal.specs.Refusals.{Reply, told, Check, first_of}
use Rattle.refusal.specs.laws.InTurn.{first_passes, first_refuses, Each, each_done, first_gives}
use Rattle.refusal.specs.laws.Kept.{other, never_told, early_never}
use Rattle.trellis.specs.Table.{table_checks}
use Rattle.coder.specs.Coder.{sent_for, EncodeCall, encode_lent_checks, encode_path_checks, encode_checks, encode_settled, encode}
use Rattle.decoder.specs.Decoder.{DecodeCall, DecodeLent, decode_lent_checks, decode_path_checks, decode_checks, decode_settled, decode}
use Rattle.decoder.specs.laws.Settled.{checked_early}
use Rattle.demands.specs.Codes.{AlwaysCodes, AlwaysDecodes}

-- checks that are done wherever those before them are
never_later : (xs ys : List Check) → (first_of xs ≡ Ok tt → first_of ys ≡ Ok tt) → first_of (xs ++ ys) ≡ first_of xs
never_later xs ys h = go (first_of xs) refl
  where
    go : (r : Reply) → first_of xs ≡ r → first_of (xs ++ ys) ≡ first_of xs
    go (Ok tt) e = first_passes xs ys e ∙ h e ∙ sym e
    go (Err r) e = first_refuses xs ys e ∙ sym e

-- ---- the frame decoder

module _ (c : DecodeCall) (l : DecodeLent) (walks : first_of (decode_lent_checks c l) ≡ Ok tt → first_of (decode_path_checks c.frame) ≡ Ok tt) where
  decode_checked : (decode c l).reply ≡ first_of (decode_lent_checks c l)
  unfolding decode decode_settled decode_checks
  decode_checked = never_later (decode_lent_checks c l) (decode_path_checks c.frame) walks

  pub decodes_by_paths : AlwaysDecodes c l
  decodes_by_paths =
      let (not-12, not-13) = early_never (checked_early c l) in
      record { never_12 = rw decode_checked not-12; never_13 = rw decode_checked not-13; done = λ passed. decode_checked ∙ passed }

-- ---- the coder

module _ (c : EncodeCall) (sent : List ℕ) (has : first_of (encode_lent_checks c sent) ≡ Ok tt → found (sent_for c.frame c.message) ≡ true) where
  encode_checked : (encode c sent).reply ≡ first_of (encode_lent_checks c sent)
  unfolding encode encode_settled encode_checks encode_path_checks Each
  encode_checked = never_later (encode_lent_checks c sent) (encode_path_checks c) (λ passed. each_done (encode_path_checks c) (has passed, tt))

  pub codes_by_paths : AlwaysCodes c sent
  codes_by_paths =
      let others = first_gives (other 14) (encode_lent_checks c sent) (unfold encode_lent_checks table_checks every other told in refl) in
      record { never_14 = rw encode_checked (never_told 14 (λ e. omega arith) others); done = λ passed. encode_checked ∙ passed }
