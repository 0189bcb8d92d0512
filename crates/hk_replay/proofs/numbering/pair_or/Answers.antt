use Rattle.std.proofs.Common.{sym, ap, ◌∙◌}
use Rattle.std.specs.Option.{unwrap_or}
use Rattle.hk_replay.proofs.Matching.{found-below, pair-none, pair-some}
use Rattle.hk_replay.proofs.numbering.pair_or.Goals as goal

pub pair-requires : goal.pair-requires
pair-requires c = found-below c.args.plan.now c.args.id.now c.args.name.now c.in-Some.item (sym c.find.ensures ∙ c.in-Some.is)

pub returns-in-Some : goal.returns-in-Some
returns-in-Some c = c.unwrap_or.ensures ∙ ap (λ o. unwrap_or o 0) (c.pair.ensures ∙ sym (pair-some c.args.plan.now c.args.id.now c.args.name.now c.in-Some.item (sym c.find.ensures ∙ c.in-Some.is)))

pub returns-in-None : goal.returns-in-None
returns-in-None c = sym (ap (λ o. unwrap_or o 0) (pair-none c.args.plan.now c.args.id.now c.args.name.now (sym c.find.ensures ∙ c.in-None.is)))
