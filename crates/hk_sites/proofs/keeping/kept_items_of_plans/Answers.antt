use Rattle.hk_sites.proofs.KeptItems.{kept-finished, plan-history, unchanged-kept}
use Rattle.hk_sites.proofs.keeping.kept_items_of_plans.Goals as goal

pub returns-clause-finished : goal.returns-clause-finished
returns-clause-finished c = λ dig old new item apart kept. kept-finished dig old new apart item kept

pub returns-clause-history : goal.returns-clause-history
returns-clause-history c = λ dig old new h apart all. plan-history dig old new apart h all

pub returns-clause-unchanged : goal.returns-clause-unchanged
returns-clause-unchanged c = unchanged-kept
