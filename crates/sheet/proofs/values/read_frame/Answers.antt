-- The message rows, then the tails.
use Rattle.std.proofs.Common.{◌≡◌, None, ap, ap₂, ◌∙◌, ◌++◌}
use Rattle.rows.specs.declared.Tail.{Tail}
use Rattle.rows.specs.contracts.TailDefault.TheImpl.{is_default-value}
use Rattle.rows.specs.Lent.{tail_or_zeros}
use Rattle.sheet.specs.laws.Receiving.{both_tails, values_to}
use Rattle.sheet.proofs.Receiving.{tail_zeros, tail_unwrapped}
use Rattle.sheet.proofs.values.read_frame.Goals as goal

abbrev the_zeros : Tail → Type 0
the_zeros = is_default-value.it

zeros : (t : Tail) → the_zeros t → t ≡ tail_or_zeros None
zeros t p = tail_zeros t p.0 p.1.0 p.1.1.0 p.1.1.1

pub returns-clause-values_after : goal.returns-clause-values_after
unfolding values_to
returns-clause-values_after c =
    let a = tail_unwrapped the_zeros _ _ c.unwrap_or_default-a.ensures zeros ∙ ap tail_or_zeros c.tail_in.ensures in
    let b = tail_unwrapped the_zeros _ _ c.unwrap_or_default-b.ensures zeros ∙ ap tail_or_zeros c.tail_in-2.ensures in
    c.put_tails.ensures ∙ ap₂ ◌++◌ c.read_messages.ensures.values_after (ap₂ both_tails a b)
