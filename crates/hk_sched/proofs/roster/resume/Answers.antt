use Rattle.std.proofs.Common.{sym, ap, map, ◌∙◌}
use Rattle.std.proofs.lemmas.List.{set-set}
use Rattle.hk_sched.specs.Standings.{standing_at}
use Rattle.hk_sched.specs.Places.{standing}
use Rattle.hk_sched.proofs.roster.resume.Goals as goal

pub returns-in-Err : goal.returns-in-Err
returns-in-Err g c = (
  c.in-Held.machine,
  c.in-Err.machine,
  ap (standing_at (map standing c.args.places.now.items)) (sym c.item.view_is) ∙ sym c.in-Held.ensures.taken,
  c.in-Err.ensures,
  rw (c.set_place.ensures.places, c.in-Held.ensures.places, c.item.view_is) (set-set _ _ _ _),
)
