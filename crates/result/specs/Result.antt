-- The result lists of a decoding (document 01, "Frame"): what the last passes say of the K message positions, in message order.
-- Assumes nothing.
use Rattle.std.specs.Prelude.{Bool, ◌&&◌, List, [], ◌∷◌, map, ℕ, eqb, leb, ℤ, pos, length}
use Rattle.lists.specs.Lists.{every}
use Rattle.refusal.specs.declared.Refusal.TheVariants.{Lists, Pattern, ForcedPosition}
use Rattle.refusal.specs.Refusals.{Reply, Check, ◌unless◌, first_of, after}
use Rattle.frame.specs.Interleaver.{permutes, deinterleave}
use Rattle.soft.specs.Soft.{decided}

-- what is read: the pattern, the marks of the last pass 1, and what the last pass 2 says, in its own order
pub record ConcludeCall : Type 0 where
  pub pattern : List ℕ
  pub marks1 : List ℕ
  pub marks2 : List ℕ
  pub margins : List ℤ
  pub extrinsics : List ℤ

-- what is written
pub record ConcludeLent : Type 0 where
  pub bits : List ℕ
  pub margins : List ℤ
  pub extrinsics : List ℤ

-- every list has an entry for each of the pattern's (not so: 5)
unfoldable pub conclude_lists_fit : ConcludeCall → ConcludeLent → Bool
conclude_lists_fit c l =
    let k = length c.pattern in
    (eqb (length c.marks1) k && eqb (length c.marks2) k && eqb (length c.margins) k && eqb (length c.extrinsics) k)
    && (eqb (length l.bits) k && eqb (length l.margins) k && eqb (length l.extrinsics) k)

-- the pattern has at most 4,096 entries, each number below their count exactly once (not so: 8)
abbrev pub conclude_pattern : ConcludeCall → Bool
conclude_pattern c = leb (length c.pattern) 4096 && permutes (length c.pattern) c.pattern

-- every mark says free
abbrev pub all_free : List ℕ → Bool
all_free marks = every (λ m. eqb m 2) marks

-- the checks, in their order; the last is that no message position is forced in either pass (not so: 13)
unfoldable pub conclude_checks : ConcludeCall → ConcludeLent → List Check
conclude_checks c l =
    Lists unless conclude_lists_fit c l
    ∷ Pattern unless conclude_pattern c
    ∷ ForcedPosition unless (all_free c.marks1 && all_free c.marks2)
    ∷ []

-- the reply, and every list as it is left
pub record ConcludeResult : Type 0 where
  pub reply : Reply
  pub lists : ConcludeLent

-- what a reply leaves of the lists: position i of pass 2 is message position pattern(i)
unfoldable pub conclude_settled : Reply → ConcludeCall → ConcludeLent → ConcludeResult
conclude_settled r c l = record {
  reply = r;
  lists = record {
    bits = after r (deinterleave 0 c.pattern (map decided c.margins)) l.bits;
    margins = after r (deinterleave (pos 0) c.pattern c.margins) l.margins;
    extrinsics = after r (deinterleave (pos 0) c.pattern c.extrinsics) l.extrinsics;
  };
}

unfoldable pub conclude : ConcludeCall → ConcludeLent → ConcludeResult
conclude c l = conclude_settled (first_of (conclude_checks c l)) c l

-- ---- from what the code is lent

abbrev pub conclude_call_of : List ℕ → List ℕ → List ℕ → List ℤ → List ℤ → ConcludeCall
conclude_call_of pattern marks1 marks2 margins extrinsics =
    record { pattern = pattern; marks1 = marks1; marks2 = marks2; margins = margins; extrinsics = extrinsics }

abbrev pub conclude_lent_of : List ℕ → List ℤ → List ℤ → ConcludeLent
conclude_lent_of bits margins extrinsics = record { bits = bits; margins = margins; extrinsics = extrinsics }

abbrev pub conclude_result_of : Reply → List ℕ → List ℤ → List ℤ → ConcludeResult
conclude_result_of r bits margins extrinsics = record { reply = r; lists = conclude_lent_of bits margins extrinsics }
