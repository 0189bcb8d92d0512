use Rattle.hk_reuse.proofs.Images.{image-formed, left-formed, entries-formed, facts-below}
use Rattle.hk_reuse.proofs.Listings.{entries-listed}
use Rattle.hk_reuse.proofs.leaving.builds_leave_entries.Goals as goal

pub returns-clause-clean : goal.returns-clause-clean
returns-clause-clean c = λ dig site s. image-formed dig site s

pub returns-clause-over_entries : goal.returns-clause-over_entries
returns-clause-over_entries c = λ dig site entries s formed. left-formed dig site entries s formed

pub returns-clause-of_facts : goal.returns-clause-of_facts
returns-clause-of_facts c = λ dig items ends k are facts. entries-formed dig items are ends k facts

pub returns-clause-listed : goal.returns-clause-listed
returns-clause-listed c = λ dig items ends k are. entries-listed dig items are ends k

pub returns-clause-patterns : goal.returns-clause-patterns
returns-clause-patterns c = λ lay run limit i facts given below lt e. facts-below lay run limit given below i facts lt e
