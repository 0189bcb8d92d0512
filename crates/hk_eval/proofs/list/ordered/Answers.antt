use Rattle.std.proofs.Common.{sym, ap, ◌∙◌, ◌<◌, length}
use Rattle.hk_rules.specs.Plan.{lookups}
use Rattle.hk_eval.specs.Placing.{placing_of}
use Rattle.hk_eval.proofs.Placings.{ordered-lacks}
use Rattle.hk_eval.proofs.list.ordered.Goals as goal

pub id-requires : goal.id-requires
id-requires c = ordered-lacks (λ i. i < length c.args.plan.now.items) (lookups c.args.plan.now) c.args.listing.now.order c.args.places.items c.in-Lacks.item c.requires (sym c.in_ok-places.ensures ∙ ap placing_of c.in-Lacks.is)
