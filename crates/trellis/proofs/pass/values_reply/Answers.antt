-- The two checks in turn are the list of both.
use Rattle.std.proofs.Common.{◌∙◌, ap₂, sym}
use Rattle.std.specs.Prelude.{[], ◌∷◌}
use Rattle.refusal.specs.Refusals.{◌then◌}
use Rattle.refusal.specs.laws.InTurn.{first_of_both}
use Rattle.trellis.specs.Limits.{channel_check, apriori_check}
use Rattle.trellis.proofs.pass.values_reply.Goals as goal

pub returns : goal.returns
returns c =
    c.first_of.ensures ∙ ap₂ ◌then◌ c.channel_reply.ensures c.apriori_reply.ensures
    ∙ sym (first_of_both (channel_check c.args.channel.now ∷ []) (apriori_check c.args.apriori.now ∷ []))
