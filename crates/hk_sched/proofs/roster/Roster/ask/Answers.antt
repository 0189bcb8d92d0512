use Rattle.hk_chain.specs.Kept.{at_place}
use Rattle.hk_sched.proofs.Taking.{lacks-some}
use Rattle.hk_sched.proofs.roster.Roster.ask.Goals as goal

pub returns-then-next-open : goal.returns-then-next-open
returns-then-next-open g c = (
  λ none. lacks-some (at_place c.deref.result.now) c.open_pairs-open.result.now c.next_unknown-next.result c.next_unknown-next.ensures.within.found c.if-next-open.true (c.next_unknown-next.ensures.lacks c.if-next-open.true)
      (rw (c.deref.ensures.value, c.open_pairs-open.ensures) (rw (← c.self.view_is) at none)),
  rw (← c.item-item.ensures) c.put.ensures,
)
