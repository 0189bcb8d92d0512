use Rattle.hk_fix.proofs.Waits.{kept-sown}
use Rattle.hk_fix.proofs.confluence.kept_are_seeds.Goals as goal

pub returns : goal.returns
returns c = λ lay kept is. kept-sown lay kept is
