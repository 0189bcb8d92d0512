use Rattle.hk_sites.proofs.Lawful.{setting, used-below, nothing-kept}
use Rattle.hk_sites.proofs.leaving.runs_over_entries_are_lawful.Goals as goal

pub returns-clause-laws : goal.returns-clause-laws
returns-clause-laws c = λ dig plan entries made formed. setting dig plan made entries formed

pub returns-clause-patterns : goal.returns-clause-patterns
returns-clause-patterns c = λ dig plan entries item facts made formed lt e. used-below dig plan made entries formed item facts lt e

pub returns-clause-seeds : goal.returns-clause-seeds
returns-clause-seeds c = nothing-kept
