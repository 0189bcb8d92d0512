use Rattle.hk_fix.proofs.Orders.{fix-fixed}
use Rattle.hk_fix.proofs.Leasts.{fix-least}
use Rattle.hk_fix.proofs.confluence.least_fixpoint.Goals as goal

pub returns-clause-fixed : goal.returns-clause-fixed
returns-clause-fixed c = λ lay run seeds given. fix-fixed lay run seeds given.shape given.laws given.sown

pub returns-clause-least : goal.returns-clause-least
returns-clause-least c = λ lay run seeds given k stable. fix-least lay run seeds given.shape given.laws given.sown k stable
