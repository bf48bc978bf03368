-- The loop that spreads a frame: what each place holds, and what the loop leaves.
-- Assumes nothing.
use Rattle.std.specs.Prelude.{◌≡◌, Bool, false, cond, List, ℕ, length, get_or}
use Rattle.std.proofs.Common.{sym, ◌∙◌, arith, ext_get_or}
use Rattle.lists.specs.laws.Stores.{Filled}
use Rattle.frame.specs.Frame.{spread}
use Rattle.frame.specs.laws.Puncturing.{sent_to, spread_length, spread_at_lem}

-- what place i of a spread list holds
abbrev pub spread_at : {A : Type 0} → A → List Bool → List A → ℕ → A
spread_at d fs xs i = cond (get_or fs i false) (get_or xs (sent_to fs i) d) d

pub spread_filled : {A : Type 0} (d : A) (fs : List Bool) (xs out : List A) → length out ≡ length fs →
    Filled d (spread_at d fs xs) out (length fs) → out ≡ spread d fs xs
spread_filled d fs xs out e h =
    ext_get_or d out (spread d fs xs) (e ∙ sym (spread_length d fs xs)) (λ i l. h.entry i (omega arith) ∙ sym (spread_at_lem d fs xs i))
