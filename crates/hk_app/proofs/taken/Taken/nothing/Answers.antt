use Rattle.hk_app.proofs.Stocks.{none-stored}
use Rattle.hk_app.proofs.taken.Taken.nothing.Goals as goal

pub returns-clause-stored : goal.returns-clause-stored
returns-clause-stored c = none-stored c.nothing_stored.result c.nothing_stored.ensures
