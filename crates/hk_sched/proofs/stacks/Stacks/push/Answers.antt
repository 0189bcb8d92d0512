use Rattle.hk_sched.proofs.Chains.{push-links}
use Rattle.hk_sched.proofs.stacks.Stacks.push.Goals as goal

pub invariant_of-self : goal.invariant_of-self
invariant_of-self c =
    push-links c.self.inside.tops.items c.self.inside.next.items c.self.inside.stack_of.items c.self.invariant c.args.stack c.index_of-place.result c.index_of-place.ensures
    (rw (← c.self.view_is) at c.requires.stack) c.args.item c.item.inside.0 c.item-2.inside.0 c.index.result.now c.item.view_is c.item-2.view_is c.index.ensures
    (rw (← c.self.view_is) at c.requires.free) (rw (← c.self.view_is) at c.requires.item)
