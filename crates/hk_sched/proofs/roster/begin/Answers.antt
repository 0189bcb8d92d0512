use Rattle.std.proofs.Common.{map, sym, ap, subst, ◌∙◌}
use Rattle.hk_sched.specs.Standings.{standing_at}
use Rattle.hk_sched.specs.Places.{standing}
use Rattle.hk_sched.specs.Turns.{IsToBegin}
use Rattle.hk_sched.proofs.Taking.{no-other}
use Rattle.hk_sched.proofs.roster.begin.Goals as goal

pub unreachable-requires : goal.unreachable-requires
unreachable-requires g c =
    no-other c.take_place.result c.in_default.not-Unbegun c.in_default.not-Again
    (subst IsToBegin (ap (standing_at (map standing c.args.places.now.items)) (sym c.item.view_is) ∙ sym c.take_place.ensures.taken)
    (c.requires.fresh c.in_ok-item.item c.in_ok-item.ensures.1))
