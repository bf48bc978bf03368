-- What reads leave in the room is what they took from the input.
-- Assumes nothing.
use Rattle.std.specs.List.{between}
use Rattle.std.specs.Io.KnownBytes.{Consumes}
use Rattle.std.proofs.Common.{◌≡◌, ℕ, ◌+◌, ◌-◌, ◌≤◌, List, ◌++◌, take, length, ◌∙◌, sym, ap, subst, arith, drop_at, length-take-le, take-add}
use Rattle.std.proofs.KnownBytes.{Consumes-trans}
use Rattle.std.specs.Prelude.{Option}
use borrow.Rule.Slice.PartMut.{put_mid, post_of}
use lib.Seq.{take-append-le}

-- the bytes of a read into a part of the room
pub part_read : (from room count : ℕ) (xs ys : List ℕ) → from ≤ length xs → count ≤ length ys → between from (from + count) (put_mid from room xs ys) ≡ take count ys
part_read from room count xs ys within fits =
    let same : (from + count) - from ≡ count = omega arith in
    let after = post_of from room xs in
    ap (take ((from + count) - from)) (drop_at (take from xs) (ys ++ after) from (length-take-le from xs within))
    ∙ ap (λ m. take m (ys ++ after)) same
    ∙ take-append-le count ys after fits

-- one read more behind those before it
pub read_more : (old now new : Option (List ℕ)) (from n : ℕ) (before room : List ℕ) → from ≤ n → take from room ≡ take from before
    → Consumes old now (take from before) → Consumes now new (between from n room) → Consumes old new (take n room)
read_more old now new from n before room le front taken more =
    let same : from + (n - from) ≡ n = omega arith in
    let joined : take from before ++ between from n room ≡ take n room =
    ap (λ l. l ++ between from n room) (sym front) ∙ sym (take-add from (n - from) room) ∙ ap (λ m. take m room) same in
    subst (Consumes old new) joined (Consumes-trans old now new (take from before) (between from n room) taken more)
