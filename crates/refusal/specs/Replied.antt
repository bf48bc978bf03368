-- What the reply to a list of checks is (document 01, "Refused frames and calls"; demand 1), said without going through them in turn.
-- Assumes nothing.
use Rattle.std.specs.Prelude.{◌≡◌, ◌↔◌, Bool, true, false, List, ◌∷◌, ◌++◌, Ok, Err}
use Rattle.lists.specs.Lists.{every}
use Rattle.refusal.specs.declared.Refusal.{Refusal}
use Rattle.refusal.specs.Refusals.{Reply, Check, ◌unless◌}

-- every test holds
abbrev pub all_hold : List Check → Bool
all_hold cs = every (λ c. c.holds) cs

-- r is the refusal of the first check that fails: all before it hold
pub record IsFirstToFail (cs : List Check) (r : Refusal) : Type 0 where
  pub before : List Check
  pub after : List Check
  pub in_turn : cs ≡ before ++ (r unless false ∷ after)
  pub hold_before : all_hold before ≡ true

-- done exactly where every test holds, and refused by r exactly where r is that of the first that fails
pub record IsReply (cs : List Check) (reply : Reply) : Type 0 where
  pub done : (reply ≡ Ok tt) ↔ (all_hold cs ≡ true)
  pub refused : (r : Refusal) → (reply ≡ Err r) ↔ IsFirstToFail cs r
