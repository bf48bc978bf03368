-- At most four outputs have 2^n words.
use Rattle.std.proofs.Common.{◌∙◌, ◌≡◌, ◌≤◌, ◌&&◌, ◌^◌, min, sym, ap, arith, ltb, ℕ, refl, true, false, Bool}
use Rattle.lists.specs.Lists.{every}
use Rattle.trellis.specs.Table.{Table, table_of, branched}
use Rattle.trellis.proofs.Table.is_branched.Goals as goal

few : (n : ℕ) → n ≤ 4 → min n 4 ≡ n
few n h = omega arith

none_of : (t : Table) → false ≡ every (λ s. ltb s t.states) t.next → false ≡ branched t
unfolding branched
none_of t e = rw (← e) refl

rest_of : (t : Table) {b : Bool} → t.outputs ≤ 4 → true ≡ every (λ s. ltb s t.states) t.next → b ≡ every (λ w. ltb w (2 ^ min t.outputs 4)) t.words → b ≡ branched t
unfolding branched
rest_of t h e f = rw (← e) (rw (few t.outputs h) at f)

pub returns-then-all_below : goal.returns-then-all_below
returns-then-all_below c =
    let t = c.self.inside in
    rw (← c.self.view_is)
    (rest_of (table_of t.states t.outputs t.next.now t.words.now) (rw (← c.self.view_is) at c.requires) c.if-all_below.ensures (rw c.word_count.ensures at c.all_below-then-all_below.ensures))

pub returns-else-all_below : goal.returns-else-all_below
returns-else-all_below c =
    let t = c.self.inside in
    rw (← c.self.view_is) (c.if-all_below.false ∙ none_of (table_of t.states t.outputs t.next.now t.words.now) c.if-all_below.ensures)
