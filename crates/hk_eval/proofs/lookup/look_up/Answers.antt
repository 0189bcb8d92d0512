use Rattle.std.proofs.Common.{length}
use Rattle.hk_rules.specs.Plan.{lookups}
use Rattle.hk_eval.specs.Told.{told_pages}
use Rattle.hk_eval.proofs.Giving.{look-within}
use Rattle.hk_eval.proofs.lookup.look_up.Goals as goal

pub returns-clause-within : goal.returns-clause-within
returns-clause-within c = look-within (length c.args.plan.now.contexts) (length c.args.plan.now.patterns) (lookups c.args.plan.now) (length c.args.plan.now.items) c.args.here.now c.args.key.now (told_pages c.args.told.now) c.new-asked.result.items c.first_value.new.asked.items c.in_ok-look.look c.requires.plan c.requires.here.1 c.in_ok-look.ensures
