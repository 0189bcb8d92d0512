use Rattle.hk_sites.proofs.CleanBuilds.{sites-apart, builds-clean}
use Rattle.hk_sites.proofs.rebuilding.rebuilds_of_plans_are_clean.Goals as goal

pub returns-clause-apart : goal.returns-clause-apart
returns-clause-apart c = sites-apart

pub returns-clause-clean : goal.returns-clause-clean
returns-clause-clean c = builds-clean
