-- A frame whose coders both end open is refused by the checks alone: never by 12, 13 or 14.
-- Assumes nothing.
use Rattle.std.specs.Prelude.{◌≡◌, refl, true, List, ℕ}
use Rattle.std.proofs.Math.Option.{bind}
use Rattle.lists.specs.Lists.{found}
use Rattle.trellis.specs.declared.End.TheVariants.{Open}
use Rattle.trellis.specs.laws.Branches.{shaped_is}
use Rattle.frame.specs.Frame.{Frame}
use Rattle.coder.specs.Coder.{coded_path, sent_for, EncodeCall}
use Rattle.decoder.specs.Decoder.{DecodeCall, DecodeLent}
use Rattle.decoder.specs.laws.Decodable.{decodable, walked_open}
use Rattle.demands.specs.Codes.{AlwaysCodes, AlwaysDecodes}
use Rattle.demands.proofs.laws.Always.{decodes_by_paths, codes_by_paths}

pub open_always_decodes : (c : DecodeCall) (l : DecodeLent) → c.frame.first ≡ Open → c.frame.second ≡ Open → AlwaysDecodes c l
open_always_decodes c l e1 e2 =
    decodes_by_paths c l (λ passed. walked_open c.frame e1 e2 (shaped_is _ (decodable c l passed).framed.shape).some_state)

open_sends : (f : Frame) (message : List ℕ) → f.first ≡ Open → f.second ≡ Open → found (sent_for f message) ≡ true
unfolding found sent_for coded_path bind
open_sends f message e1 e2 = rw (e1, e2) refl

pub open_always_codes : (c : EncodeCall) (sent : List ℕ) → c.frame.first ≡ Open → c.frame.second ≡ Open → AlwaysCodes c sent
open_always_codes c sent e1 e2 = codes_by_paths c sent (λ passed. open_sends c.frame c.message e1 e2)
