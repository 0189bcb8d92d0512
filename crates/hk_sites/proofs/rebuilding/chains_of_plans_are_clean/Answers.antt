use Rattle.hk_sites.proofs.CleanBuilds.{same-clean, chain-clean}
use Rattle.hk_sites.proofs.rebuilding.chains_of_plans_are_clean.Goals as goal

pub returns-clause-same : goal.returns-clause-same
returns-clause-same c = same-clean

pub returns-clause-chain : goal.returns-clause-chain
returns-clause-chain c = chain-clean
