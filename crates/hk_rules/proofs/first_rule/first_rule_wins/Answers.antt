use Rattle.hk_rules.proofs.FirstRules.{plan-first}
use Rattle.hk_rules.proofs.first_rule.first_rule_wins.Goals as goal

pub returns : goal.returns
returns c = λ rules files plan e. plan-first rules files plan e
