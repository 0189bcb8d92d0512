use Rattle.std.proofs.Common.{sym, ap, ◌∙◌, ◌<◌, length}
use Rattle.hk_rules.specs.Plan.{lookups}
use Rattle.hk_tags.specs.Ordered.{order_of}
use Rattle.hk_tags.proofs.OrderedWithin.{lacking-one}
use Rattle.hk_tags.proofs.expanding.piece_pages.Goals as goal

pub id-requires : goal.id-requires
id-requires c = lacking-one (λ item. item < length c.args.base.now.items) (lookups c.args.base.now) c.args.table.now.order c.in_ok-members.members.items c.in-Lacks.item c.in_ok-members.ensures.within (sym (ap order_of c.in-Lacks.is) ∙ c.in_ok-ordered.ensures)
