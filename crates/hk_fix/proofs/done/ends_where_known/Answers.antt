use Rattle.hk_fix.proofs.Waits.{over-iff}
use Rattle.hk_fix.proofs.done.ends_where_known.Goals as goal

pub returns : goal.returns
returns c = λ lay run seeds given i lt free. over-iff lay run seeds given.shape given.laws given.sown i lt free
