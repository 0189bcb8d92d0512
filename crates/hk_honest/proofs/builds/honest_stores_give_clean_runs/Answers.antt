use Rattle.hk_honest.proofs.Clean.{clean-taken}
use Rattle.hk_honest.proofs.builds.honest_stores_give_clean_runs.Goals as goal

pub returns : goal.returns
returns c = clean-taken
