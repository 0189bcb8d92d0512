use Rattle.std.proofs.Common.{◌∙◌}
use Rattle.hk_rules.specs.Flags.{is_chosen}
use Rattle.hk_rules.specs.Plan.{no_item}
use Rattle.hk_rules.proofs.Flagging.{chosen-numbers, if_ok-map}
use Rattle.hk_rules.proofs.matching.matching.Goals as goal

pub returns : goal.returns
returns c = if_ok-map c.numbers_of.result _ _ c.numbers_of.ensures (λ v e. e (is_chosen c.args.pattern.now no_item) ∙ chosen-numbers c.args.pattern.now c.args.items.now c.deref.result.now (c.deref.ensures.value ∙ c.in_ok-flags.ensures))
