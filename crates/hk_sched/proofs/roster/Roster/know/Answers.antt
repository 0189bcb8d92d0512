use Rattle.std.proofs.Common.{map, length, ◌<◌}
use Rattle.hk_sched.specs.Places.{standing}
use Rattle.hk_sched.proofs.Rosters.{to-wake}
use Rattle.hk_sched.proofs.roster.Roster.know.Goals as goal

pub wake-requires-clause-waking : goal.wake-requires-clause-waking
wake-requires-clause-waking g c =
    let lt : c.args.pair < length c.self.inside.known.items = rw (← c.self.view_is) at c.requires in
    rw (c.deref.ensures.value, c.deref-2.ensures.value, c.pair.view_is)
    (to-wake g.M.Compiler.meaning c.self.inside.known.items (map standing c.self.inside.places.items) c.self.inside.cursors.items c.self.inside.stacks c.self.invariant c.args.pair c.args.page lt)
