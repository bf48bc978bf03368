-- What is easy to see of a sheet's text: of what commonly goes wrong with a text file, the first that is so, and its line.
-- Assumes nothing.
use Rattle.std.specs.Prelude.{Bool, cond, ◌&&◌, ◌||◌, List, [], ◌∷◌, ℕ, suc, ◌-◌, eqb, ltb, length, get_or, take}
use Rattle.lists.specs.Lists.{count, is_empty}
use Rattle.text.specs.Text.{line_feed, space, cut, same}

-- what is seen, by its number, and its line
pub record Hint : Type 0 where
  pub kind : ℕ
  pub line : ℕ

abbrev pub hint : ℕ → ℕ → Hint
hint kind line = record { kind = kind; line = line }

-- the line of an index, the header being 1
unfoldable pub line_of : List ℕ → ℕ → ℕ
line_of text at = suc (count (λ b. eqb b line_feed) (take at text))

unfoldable pub starts_with : List ℕ → List ℕ → Bool
starts_with front text = same (take (length front) text) front

-- two bytes make a character: one of the first two is 0, or they are the mark of such a text
unfoldable pub is_wide : List ℕ → Bool
is_wide text =
    eqb (get_or text 0 1) 0 || eqb (get_or text 1 1) 0 || starts_with (255 ∷ 254 ∷ []) text || starts_with (254 ∷ 255 ∷ []) text

-- the index of the first such byte; the length where there is none
abbrev pub byte_at : ℕ → List ℕ → ℕ
byte_at b text = length (get_or (cut b text) 0 [])

-- the index of the first space that stands before a line feed; the length where there is none
unfoldable pub space_at : List ℕ → ℕ
space_at [] = 0
space_at (b ∷ bs) = cond (eqb b space && eqb (get_or bs 0 0) line_feed) 0 (suc (space_at bs))

-- the last line is not ended by a line feed (8), or is empty (7)
unfoldable pub last_line : List ℕ → Hint
last_line text =
    let last = length text - 1 in
    cond (eqb (get_or text last 0) line_feed)
    (cond (eqb last 0 || eqb (get_or text (last - 1) 0) line_feed) (hint 7 (line_of text last)) (hint 0 0))
    (hint 8 (line_of text last))

-- a carriage return (4), a tab (5), a space at a line's end (6), each with the first line that has it, or what the last line shows
unfoldable pub line_hint : List ℕ → Hint
line_hint text =
    cond (ltb (byte_at 13 text) (length text)) (hint 4 (line_of text (byte_at 13 text)))
    (cond (ltb (byte_at 9 text) (length text)) (hint 5 (line_of text (byte_at 9 text)))
    (cond (ltb (space_at text) (length text)) (hint 6 (line_of text (space_at text)))
    (last_line text)))

-- nothing at all (1), UTF-16 (2), a byte order mark (3), more bytes than a sheet may have (9), or what a line shows
unfoldable pub hint_of : List ℕ → Hint
hint_of text =
    cond (is_empty text) (hint 1 0)
    (cond (is_wide text) (hint 2 0)
    (cond (starts_with (239 ∷ 187 ∷ 191 ∷ []) text) (hint 3 0)
    (cond (ltb 16384 (length text)) (hint 9 0)
    (line_hint text))))
