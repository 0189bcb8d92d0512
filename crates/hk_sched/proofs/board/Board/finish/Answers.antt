use Rattle.std.proofs.Common.{◌≡◌, ap, arith}
use Rattle.std.specs.Vec.{vec_capacity}
use Rattle.hk_chain.specs.Layout.{pairs}
use Rattle.hk_fix.specs.declared.event.Event.TheVariants.{Done}
use Rattle.hk_fix.specs.Fix.{finished}
use Rattle.hk_sched.specs.Standings.{over, out, standing_at}
use Rattle.hk_sched.specs.Board.{to_come}
use Rattle.hk_sched.proofs.Rosters.{out-below}
use Rattle.hk_sched.proofs.Events.{done-fits}
use Rattle.hk_sched.proofs.board.Board.finish.Goals as goal

pub invariant_of-self : goal.invariant_of-self
invariant_of-self g c =
    let at : standing_at c.self.inside.roster.places c.args.item ≡ out = rw (← c.self.view_is) at c.requires in (
      rw (c.know.ensures, c.put.ensures, c.push_reserved.ensures.items, c.push_reserved.ensures.capacity)
          (done-fits c.self.inside.layout c.self.inside.roster c.self.inside.history.items (vec_capacity c.self.inside.room) (vec_capacity c.self.inside.history) c.self.invariant.0 c.args.item (over (finished c.args.facts)) (Done c.args.item)
          c.final_of-pair.result c.args.page (out-below c.self.inside.roster.places c.args.item at) (omega (arith, ap to_come at))
          (omega (arith, c.final_of-pair.ensures.bound, ap pairs c.get.ensures, c.self.invariant.0.pairs_known))),
      c.self.invariant.1,
    )
