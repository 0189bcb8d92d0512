use Rattle.hk_app.proofs.BuildEnds.{saves-done}
use Rattle.hk_app.proofs.finishing.save.Goals as goal

pub returns-in-Ok-clause-saves : goal.returns-in-Ok-clause-saves
returns-in-Ok-clause-saves g c = saves-done c.args.store.now c.args.ended _ _ c.in-Ok.ensures.changes.done_on_ok
