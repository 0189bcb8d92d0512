use Rattle.hk_reuse.proofs.Over.{over-laws, over-below, replay-over}
use Rattle.hk_reuse.proofs.replaying.replays_stand_over_runs.Goals as goal

pub returns-clause-laws : goal.returns-clause-laws
returns-clause-laws c = λ dig items entries inner are formed laws. over-laws dig items are entries formed inner laws

pub returns-clause-patterns : goal.returns-clause-patterns
returns-clause-patterns c = λ dig items entries inner i k formed below. over-below dig items entries formed inner i k below

pub returns-clause-clean : goal.returns-clause-clean
returns-clause-clean c = λ dig site entries i k. replay-over dig site entries i k
