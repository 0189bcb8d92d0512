use Rattle.std.proofs.Common.{map, ◌≡◌}
use Rattle.hk_sched.specs.Standings.{out, standing_at}
use Rattle.hk_sched.specs.Places.{standing}
use Rattle.hk_sched.proofs.Rosters.{put-fits, out-below}
use Rattle.hk_sched.proofs.roster.Roster.put.Goals as goal

pub invariant_of-self : goal.invariant_of-self
invariant_of-self g c =
    let at : standing_at (map standing c.self.inside.places.items) c.args.item ≡ out = rw (← c.self.view_is) at c.requires.out in
    rw (c.set_place.ensures.places, c.stand.ensures.stacks, c.item.view_is, c.deref.ensures.value)
    (put-fits g.M.Compiler.meaning c.self.inside.known.items (map standing c.self.inside.places.items) c.self.inside.cursors.items c.self.inside.stacks c.self.invariant c.args.item (standing c.args.place) c.stand.new.cursor
    (out-below (map standing c.self.inside.places.items) c.args.item at) (rw c.deref.ensures.value at c.stand.ensures.found))
