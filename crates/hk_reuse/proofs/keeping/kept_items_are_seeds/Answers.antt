use Rattle.hk_reuse.proofs.Kepts.{finishes, kept-history, kept-fix}
use Rattle.hk_reuse.proofs.keeping.kept_items_are_seeds.Goals as goal

pub returns-clause-finished : goal.returns-clause-finished
returns-clause-finished c = λ dig old new i p kept. (finishes dig old new p.was p.now p.apart p.told i kept).1

pub returns-clause-history : goal.returns-clause-history
returns-clause-history c = λ dig old new h p all. kept-history dig old new p.was p.now p.apart p.told h all

pub returns-clause-pages : goal.returns-clause-pages
returns-clause-pages c = λ dig old new h p all. kept-fix dig old new p.was p.now p.apart p.told h all
