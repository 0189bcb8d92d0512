use Rattle.std.proofs.Common.{reverse}
use Rattle.hk_fix.specs.Fix.{status}
use Rattle.hk_fix.proofs.Orders.{pages-are, ends-are, sound}
use Rattle.hk_fix.proofs.Waits.{ended-reverse, ends-iff, ends-early, waiting-blocks}
use Rattle.hk_fix.proofs.confluence.every_order.Goals as goal

pub returns-clause-pages : goal.returns-clause-pages
returns-clause-pages c = λ lay run seeds given h all. pages-are lay run seeds given.shape given.laws given.sown (reverse h) all

pub returns-clause-ends : goal.returns-clause-ends
returns-clause-ends c = λ lay run seeds given h all i lt free. ended-reverse h i (status lay run seeds i) (ends-are lay run seeds given.shape given.laws given.sown (reverse h) all i lt free)

pub returns-clause-stops : goal.returns-clause-stops
returns-clause-stops c = λ lay run seeds given i lt. ends-iff lay run seeds given.shape given.laws given.sown i lt

pub returns-clause-waits : goal.returns-clause-waits
returns-clause-waits c = λ lay run seeds given i ps lt e. waiting-blocks lay run seeds given.shape given.laws given.sown i ps lt e

pub returns-clause-within : goal.returns-clause-within
returns-clause-within c = λ lay run seeds given h lawful. sound lay run seeds given.shape given.laws given.sown (reverse h) lawful

pub returns-clause-early : goal.returns-clause-early
returns-clause-early c = λ lay run seeds given h lawful i lt still. ends-early lay run seeds given.shape given.laws given.sown (reverse h) i lawful lt still
