-- The definition on texts that go wrong in each way.
-- Assumes nothing.
use Rattle.std.specs.Prelude.{◌≡◌, refl, [], ◌∷◌, map}
use Rattle.lists.specs.Lists.{count, is_empty}
use Rattle.text.specs.Text.{bytes, on_first, cut, same}
use Rattle.hints.specs.Hints.{hint, line_of, starts_with, is_wide, space_at, last_line, line_hint, hint_of}

pub hints_compute : map hint_of
    ([]
    ∷ (255 ∷ 254 ∷ 97 ∷ 0 ∷ [])
    ∷ (0 ∷ 97 ∷ [])
    ∷ (239 ∷ 187 ∷ 191 ∷ 97 ∷ 10 ∷ [])
    ∷ bytes "a\n\tb\r\n"
    ∷ bytes "a\n\tb \nc\n"
    ∷ bytes "a\nb \n\n"
    ∷ bytes "a\nb\n\n"
    ∷ bytes "\n"
    ∷ bytes "a\nb\nc"
    ∷ bytes "a b\n"
    ∷ [])
    ≡ (hint 1 0 ∷ hint 2 0 ∷ hint 2 0 ∷ hint 3 0 ∷ hint 4 2 ∷ hint 5 2 ∷ hint 6 2 ∷ hint 7 3 ∷ hint 7 1 ∷ hint 8 3 ∷ hint 0 0 ∷ [])
unfolding bytes on_first cut same count is_empty line_of starts_with is_wide space_at last_line line_hint hint_of
hints_compute = refl
