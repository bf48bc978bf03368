-- Worked cases of request 7, frames that end otherwise: what each end makes of one pass, of a coder's start, of a frame's length and of 12, 13 and 14. One
-- theorem, computed over the list.
-- Assumes nothing.
use Rattle.std.specs.Prelude.{◌≡◌, refl, List, [], ◌∷◌, map, ℕ, pos, replicate, Ok, Err}
use Rattle.std.proofs.Math.Option.{none, some}
use Rattle.refusal.specs.declared.Refusal.TheVariants.{Length, Lists, NoPath, ForcedPosition, NoTail}
use Rattle.refusal.specs.Refusals.{Reply}
use Rattle.trellis.specs.declared.End.{End}
use Rattle.trellis.specs.declared.End.TheVariants.{Zero, Open, Ring}
use Rattle.trellis.specs.Table.{Table}
use Rattle.siso.specs.Decode as Lone
use Rattle.frame.specs.Frame.{Frame}
use Rattle.cases.specs.Cases.{Case, lone_pass, coder_path, coded, decoded, frame_size, computed, untouched, zeros, follower, ended_frame, lent_to}

-- one section over the table of P3, with channel value 3
abbrev one : End → Lone.Call
one end = record { table = follower; end = end; sections = 1; values = record { channel = pos 3 ∷ []; apriori = pos 0 ∷ [] } }

abbrev told : ℕ → ℕ → Lone.Result
told mark margin =
    record { reply = Ok tt; lists = record { marks = mark ∷ []; margins = pos margin ∷ []; extrinsics = pos 0 ∷ []; work = zeros 4 } }

-- three positions of the house code, T = 2, mask 7
abbrev three : End → End → Frame
three first second = ended_frame first second 3 2 (0 ∷ 1 ∷ 2 ∷ []) (7 ∷ [])

-- bit 0 leads from state 0 to 1 and from 1 to 0, bit 1 from both to 1
abbrev turning : Table
turning = record { states = 2; outputs = 2; next = 1 ∷ 1 ∷ 0 ∷ 1 ∷ []; words = 0 ∷ 3 ∷ 0 ∷ 3 ∷ [] }

-- one message bit and no tail section: what the decoder refuses it by
abbrev refused : Frame → ℕ → Reply → Case
refused f work r =
    decoded
    (record { frame = f; received = zeros 3; iterations = 1 })
    (lent_to 1 (replicate work (pos 77)))
    (record { reply = r; lists = lent_to 1 (zeros work) })

unfoldable pub ends : List Case
ends =
    -- from state 0 the only path of one section back to it has bit 0; of an open end, and of a ring, there is one with each bit
    lone_pass (one Zero) (untouched 1 (zeros 4)) (told 0 0)
    ∷ lone_pass (one Open) (untouched 1 (zeros 4)) (told 2 3)
    ∷ lone_pass (one Ring) (untouched 1 (zeros 4)) (told 2 3)
    -- a ring of the house code: the lowest state that the inputs return to itself, or none
    ∷ coder_path (ended_frame Ring Ring 1 0 (0 ∷ []) (7 ∷ [])) (1 ∷ []) (some (record { start = 3; bits = 1 ∷ [] })) (0 ∷ [])
    ∷ coder_path (three Ring Ring) (1 ∷ 0 ∷ 0 ∷ []) none []
    ∷ coder_path (three Ring Ring) (1 ∷ 1 ∷ 1 ∷ []) (some (record { start = 0; bits = 1 ∷ 1 ∷ 1 ∷ [] })) (1 ∷ 0 ∷ 1 ∷ [])
    -- 14 where the second coder alone has none
    ∷ coded
    (record { frame = three Open Ring; message = 1 ∷ 0 ∷ 0 ∷ [] })
    (replicate 9 77)
    (record { reply = Err NoTail; sent = replicate 9 77 })
    -- 2·T for each coder that ends at zero
    ∷ frame_size (three Zero Zero) 17
    ∷ frame_size (three Zero Open) 13
    ∷ frame_size (three Ring Open) 9
    -- the first coder has no tail: only the second's follows
    ∷ coded
    (record { frame = ended_frame Open Zero 1 2 (0 ∷ []) (7 ∷ []); message = 1 ∷ [] })
    (replicate 7 77)
    (record { reply = Ok tt; sent = 1 ∷ 1 ∷ 1 ∷ 1 ∷ 0 ∷ 1 ∷ 1 ∷ [] })
    -- 12 where one coder has no path, though the other is forced; 13 where one is forced, though the other is free; and neither where both are free
    ∷ refused (record { table = turning; first = Ring; second = Zero; bits = 1; tail = 0; pattern = 0 ∷ []; masks = 7 ∷ [] }) 4 (Err NoPath)
    ∷ refused (ended_frame Zero Open 1 0 (0 ∷ []) (7 ∷ [])) 8 (Err ForcedPosition)
    ∷ decoded
    (record { frame = ended_frame Open Open 1 0 (0 ∷ []) (7 ∷ []); received = zeros 3; iterations = 1 })
    (lent_to 1 (replicate 8 (pos 77)))
    (record { reply = Ok tt; lists = record { bits = 1 ∷ []; margins = zeros 1; extrinsics = zeros 1; work = zeros 8 } })
    -- T and K + T keep their limits where no coder has a tail
    ∷ coded
    (record { frame = ended_frame Open Open 4096 4 [] (7 ∷ []); message = [] })
    []
    (record { reply = Err Length; sent = [] })
    -- the working list is sized for the longer coder: 16 entries here, and no fewer
    ∷ decoded
    (record { frame = ended_frame Open Zero 1 2 (0 ∷ []) (7 ∷ []); received = zeros 7; iterations = 1 })
    (lent_to 1 (zeros 8))
    (record { reply = Err Lists; lists = lent_to 1 (zeros 8) })
    ∷ []

pub ends_hold : map computed ends ≡ ends
unfolding computed ends untouched zeros follower ended_frame lent_to
ends_hold = refl
