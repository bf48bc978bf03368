use Rattle.std.proofs.Common.{[], ◌≡◌, ◌+◌, ◌*◌, ◌≤◌, take}
use Rattle.decoder.specs.Lent.{decode_lent_of}
use Rattle.sheet.specs.laws.Printing.{page_to}
use Rattle.sheet.proofs.print.put_result.Given as goal

-- the page up to line k
abbrev pub invariant-loop-k : goal.invariant-loop-k
invariant-loop-k l =
    (l.at ≤ 24 + 48 * l.k)
    × (take l.at l.page ≡ page_to (decode_lent_of l.bits l.margins l.extrinsics []) l.k)
