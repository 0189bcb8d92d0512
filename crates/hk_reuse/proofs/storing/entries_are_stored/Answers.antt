use Rattle.hk_reuse.proofs.Storables.{list-stored, stored-formed}
use Rattle.hk_reuse.proofs.storing.entries_are_stored.Goals as goal

pub returns-clause-left : goal.returns-clause-left
returns-clause-left c = λ dig items ends k are facts. list-stored dig items are k ends facts

pub returns-clause-found : goal.returns-clause-found
returns-clause-found c = λ entries is. stored-formed entries is
