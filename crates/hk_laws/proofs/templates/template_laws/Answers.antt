-- The laws of a template's first fault hold.
use Rattle.hk_template.proofs.Grammar
use Rattle.hk_laws.proofs.FaultLemmas
use Rattle.hk_laws.proofs.templates.template_laws.Goals as goal

pub returns-clause-faults : goal.returns-clause-faults
returns-clause-faults c = FaultLemmas.finds

pub returns-clause-missed : goal.returns-clause-missed
returns-clause-missed c bytes none = (Grammar.tree_or_fault bytes).0 none
