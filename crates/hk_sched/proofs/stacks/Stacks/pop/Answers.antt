use Rattle.std.proofs.Common.{arith, refl, length-set}
use Rattle.hk_sched.proofs.Chains.{pop-below, pop-linked, pop-on, pop-links, empty-none}
use Rattle.hk_sched.proofs.stacks.Stacks.pop.Goals as goal

pub returns-in-None : goal.returns-in-None
returns-in-None c = (
  rw (← c.self.view_is) (empty-none c.self.inside.tops.items c.self.inside.next.items c.self.inside.stack_of.items c.self.invariant c.args.stack c.index_of-place.result c.index_of-place.ensures
      (rw (← c.self.view_is) at c.requires) c.index.result.now c.index.ensures c.in-None.is),
  refl,
)

pub index-requires-in-Some : goal.index-requires-in-Some
index-requires-in-Some c =
    let lt = pop-linked c.self.inside.tops.items c.self.inside.next.items c.self.inside.stack_of.items c.self.invariant c.args.stack c.index_of-place.result c.index_of-place.ensures
    (rw (← c.self.view_is) at c.requires) c.in-Some.item c.index.result.now c.index.ensures c.in-Some.is in
    omega (arith, lt, c.item.view_is, c.self.inside.next.ok.0)

pub index_mut-requires-in-Some : goal.index_mut-requires-in-Some
index_mut-requires-in-Some c =
    let lt = pop-below c.self.inside.tops.items c.self.inside.next.items c.self.inside.stack_of.items c.self.invariant c.args.stack c.index_of-place.result c.index_of-place.ensures
    (rw (← c.self.view_is) at c.requires) c.in-Some.item c.index.result.now c.index.ensures c.in-Some.is in
    omega (arith, lt, c.item.view_is, c.self.inside.stack_of.ok.0)

pub invariant_of-self : goal.invariant_of-self
invariant_of-self c =
    pop-links c.self.inside.tops.items c.self.inside.next.items c.self.inside.stack_of.items c.self.invariant c.args.stack c.index_of-place.result c.index_of-place.ensures
    (rw (← c.self.view_is) at c.requires) c.in-Some.item c.index.result.now c.index.ensures c.in-Some.is c.item.inside.0 c.item.inside.0 c.index-in-Some.result.now c.item.view_is c.item.view_is c.index-in-Some.ensures

pub returns-in-Some : goal.returns-in-Some
returns-in-Some c =
    let has = rw (← c.self.view_is) at c.requires in (
      rw (← c.self.view_is) (pop-below c.self.inside.tops.items c.self.inside.next.items c.self.inside.stack_of.items c.self.invariant c.args.stack c.index_of-place.result c.index_of-place.ensures has c.in-Some.item c.index.result.now c.index.ensures c.in-Some.is),
      rw (← c.self.view_is) (pop-on c.self.inside.tops.items c.self.inside.next.items c.self.inside.stack_of.items c.self.invariant c.args.stack c.index_of-place.result c.index_of-place.ensures has c.in-Some.item c.index.result.now c.index.ensures c.in-Some.is),
      rw (← c.self.view_is, c.item.view_is, length-set) refl,
    )
