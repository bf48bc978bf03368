-- Text as bytes: quoted text, and text cut at a byte.
-- Assumes nothing.
use Rattle.std.specs.Prelude.{Bool, true, false, cond, ◌&&◌, List, [], ◌∷◌, ℕ, eqb}
use Prim.Native.Char.{code}
use Prim.Native.String.{String}

-- the bytes of a quoted text, all of them below 128
unfoldable pub bytes : String → List ℕ
bytes String.[] = []
bytes (String.◌∷◌ c s) = code c ∷ bytes s

abbrev pub line_feed : ℕ
line_feed = 10

abbrev pub space : ℕ
space = 32

abbrev pub minus : ℕ
minus = 45

-- a byte put in front of the first piece
unfoldable pub on_first : ℕ → List (List ℕ) → List (List ℕ)
on_first b [] = []
on_first b (p ∷ ps) = (b ∷ p) ∷ ps

-- the pieces between a byte's occurrences: one more than it occurs
unfoldable pub cut : ℕ → List ℕ → List (List ℕ)
cut at [] = [] ∷ []
cut at (b ∷ bs) = cond (eqb b at) ([] ∷ cut at bs) (on_first b (cut at bs))

-- two texts are the same
unfoldable pub same : List ℕ → List ℕ → Bool
same [] [] = true
same [] (y ∷ ys) = false
same (x ∷ xs) [] = false
same (x ∷ xs) (y ∷ ys) = eqb x y && same xs ys
