use Rattle.hk_reuse.proofs.Cutoffs.{kept-if_unchanged}
use Rattle.hk_reuse.proofs.keeping.kept_unless_changed.Goals as goal

pub returns : goal.returns
returns c = λ dig items entries k i entry lt had formed own. kept-if_unchanged dig items entries k i entry lt had formed.last own
