-- The laws of the rules file hold.
use Rattle.hk_rules_file.proofs.NameLemmas
use Rattle.hk_rules_file.proofs.NumberLemmas
use Rattle.hk_rules_file.proofs.RuleLemmas
use Rattle.hk_rules_file.proofs.laws.rules_laws.Goals as goal

pub returns-clause-faults : goal.returns-clause-faults
returns-clause-faults c = RuleLemmas.numbers_tell_rules

pub returns-clause-places : goal.returns-clause-places
returns-clause-places c = NumberLemmas.numbers_tell_places

pub returns-clause-names : goal.returns-clause-names
returns-clause-names c = NameLemmas.names_tell_contexts
