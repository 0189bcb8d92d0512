use Rattle.hk_replay.proofs.Planned.{plan-items, stores-formed}
use Rattle.hk_replay.proofs.named.plans_have_items.Goals as goal

pub returns-clause-items : goal.returns-clause-items
returns-clause-items c = plan-items

pub returns-clause-entries : goal.returns-clause-entries
returns-clause-entries c = stores-formed
