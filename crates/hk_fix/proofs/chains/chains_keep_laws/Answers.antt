use Rattle.hk_fix.specs.ChainLaws.{chains-run}
use Rattle.hk_fix.proofs.chains.chains_keep_laws.Goals as goal

pub returns : goal.returns
returns c = λ lay task snapshots chains. chains-run lay task snapshots chains
