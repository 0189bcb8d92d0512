use Rattle.std.proofs.Common.{map}
use Rattle.hk_sched.specs.Places.{standing}
use Rattle.hk_sched.proofs.Rosters.{woken, wake-step, wake-smaller}
use Rattle.hk_sched.proofs.roster.wake.Goals as goal

pub loop-item-preserved : goal.loop-item-preserved
loop-item-preserved g c =
    wake-step g.M.Compiler.meaning c.args.known.now c.args.places.now c.loop-item.cursors.items c.loop-item.stacks _ _ c.args.pair c.loop-item.invariant c.in-Some.item c.item.inside.0 c.item.view_is c.in-Some.ensures.0
    c.index-places-at.result c.index-places-at.is c.in-Some.ensures.2 c.stand.ensures.stacks c.stand.new.cursor c.stand.ensures.found

pub loop-item-smaller : goal.loop-item-smaller
loop-item-smaller g c =
    wake-smaller g.M.Compiler.meaning c.args.known.now c.args.places.now c.loop-item.cursors.items c.loop-item.stacks _ _ c.args.pair c.loop-item.invariant c.in-Some.item c.item.inside.0 c.item.view_is c.in-Some.ensures.0
    c.index-places-at.result c.index-places-at.is c.in-Some.ensures.2 c.stand.ensures.stacks c.requires.known c.in-Some.ensures.1

pub returns : goal.returns
returns g c =
    rw c.in_default.ensures.1 (woken g.M.Compiler.meaning c.args.known.now (map standing c.args.places.now) c.loop-item.cursors.items c.loop-item.stacks c.args.pair c.loop-item.invariant c.in_default.ensures.0)
