use Rattle.hk_reuse.proofs.Builds.{builds-left}
use Rattle.hk_reuse.proofs.rebuilding.chains_of_builds_are_clean.Goals as goal

pub returns : goal.returns
returns c = λ dig site sites linked. builds-left dig site sites linked
