-- The laws of date patterns hold.
use Rattle.hk_laws.proofs.DateLemmas
use Rattle.hk_laws.proofs.dates.date_laws.Goals as goal

pub returns-clause-accepts : goal.returns-clause-accepts
returns-clause-accepts c = DateLemmas.accepts_patterns

pub returns-clause-prints : goal.returns-clause-prints
returns-clause-prints c = DateLemmas.prints_parts
