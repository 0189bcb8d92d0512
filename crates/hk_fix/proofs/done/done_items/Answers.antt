use Rattle.hk_fix.proofs.Traces.{status-facts, status-pages}
use Rattle.hk_fix.proofs.done.done_items.Goals as goal

pub returns-clause-pages : goal.returns-clause-pages
returns-clause-pages c = λ lay run seeds given p lt e. status-pages lay run seeds given p lt e

pub returns-clause-facts : goal.returns-clause-facts
returns-clause-facts c = λ lay run seeds given sown i f lt e. status-facts lay run seeds given sown i f lt e
