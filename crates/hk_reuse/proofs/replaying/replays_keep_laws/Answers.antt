use Rattle.hk_reuse.proofs.Laws.{replay-laws}
use Rattle.hk_reuse.proofs.replaying.replays_keep_laws.Goals as goal

pub returns : goal.returns
returns c = λ dig site entries s formed. replay-laws dig site s entries formed
