use Rattle.hk_app.proofs.Promising.{promise}
use Rattle.hk_app.proofs.run.site_main_one.Goals as goal

pub returns-in-Ok : goal.returns-in-Ok
returns-in-Ok g c = promise _ _ _ _ _ c.in-Ok.ended.status c.in-Ok.ended.text _ c.in-Ok.ensures (rw c.as_slice.ensures at c.say.ensures.said) c.say.ensures.later
