-- The laws of quoted scalars hold.
use Rattle.hk_laws.proofs.ScalarLemmas
use Rattle.hk_laws.proofs.scalars.scalar_laws.Goals as goal

pub returns-clause-double : goal.returns-clause-double
returns-clause-double c = ScalarLemmas.reads_double

pub returns-clause-single : goal.returns-clause-single
returns-clause-single c = ScalarLemmas.reads_single

pub returns-clause-back : goal.returns-clause-back
returns-clause-back c = ScalarLemmas.reads_back
