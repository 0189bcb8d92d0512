use Rattle.hk_build.proofs.HonestBuilds.{honest-clean, honest-history}
use Rattle.hk_build.proofs.cleaning.honest_builds_are_clean.Goals as goal

pub returns-clause-clean : goal.returns-clause-clean
returns-clause-clean c = honest-clean

pub returns-clause-history : goal.returns-clause-history
returns-clause-history c = λ old new h apart. honest-history old new apart h
