-- A table and its branches (document 01, "Table, path and metric").
-- Assumes nothing.
use Rattle.std.specs.Prelude.{Bool, ◌&&◌, List, [], ◌∷◌, ℕ, ◌+◌, ◌*◌, ◌/◌, ◌%◌, ◌^◌, eqb, leb, ltb, length, get_or}
use Rattle.lists.specs.Lists.{every, upto}
use Rattle.refusal.specs.declared.Refusal.TheVariants.{Shape, Branch}
use Rattle.refusal.specs.Refusals.{Check, ◌unless◌}

-- a table: S states, n outputs, and the lists of next states and words, which hold the branch of state s and bit b at 2·s + b
pub record Table : Type 0 where
  pub states : ℕ
  pub outputs : ℕ
  pub next : List ℕ
  pub words : List ℕ

-- the same as one value, from what an entry is lent
abbrev pub table_of : ℕ → ℕ → List ℕ → List ℕ → Table
table_of states outputs next words = record { states = states; outputs = outputs; next = next; words = words }

-- the next state and the word of the branch of state s and bit b
unfoldable pub next_state : Table → ℕ → ℕ → ℕ
next_state t s b = get_or t.next (2 * s + b) 0

unfoldable pub word : Table → ℕ → ℕ → ℕ
word t s b = get_or t.words (2 * s + b) 0

-- output l of a word, counted from 0: document 01's output l + 1, which is bit l of the word
unfoldable pub output : ℕ → ℕ → ℕ
output w l = w / 2 ^ l % 2

-- systematic: output 1 of every branch is its input bit
unfoldable pub systematic : Table → Bool
systematic t = every (λ s. eqb (output (word t s 0) 0) 0 && eqb (output (word t s 1) 0) 1) (upto t.states)

-- the shape is within the limits, and both lists are 2·S long (not so: 2)
unfoldable pub shaped : Table → Bool
shaped t =
    (leb 1 t.states && leb t.states 16)
    && (leb 1 t.outputs && leb t.outputs 4)
    && (eqb (length t.next) (2 * t.states) && eqb (length t.words) (2 * t.states))

-- every next state is below S, and every word below 2^n (not so: 3)
unfoldable pub branched : Table → Bool
branched t = every (λ s. ltb s t.states) t.next && every (λ w. ltb w (2 ^ t.outputs)) t.words

-- the checks of a table, which come before all others
unfoldable pub table_checks : Table → List Check
table_checks t = Shape unless shaped t ∷ Branch unless branched t ∷ []
