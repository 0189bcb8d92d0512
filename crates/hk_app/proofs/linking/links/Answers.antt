use Rattle.std.proofs.Common.{subst}
use Rattle.hk_app.specs.Gathering.{Gathers}
use Rattle.hk_app.specs.World.{folder}
use Rattle.hk_app.proofs.Linkings.{links-task}
use Rattle.hk_app.proofs.linking.links.Goals as goal

pub returns-in-Planned : goal.returns-in-Planned
returns-in-Planned g c = λ site cache.
    let old = folder (g.S.Tree.files c.args.source.now) (g.S.Tree.faults c.args.source.now) in
    let new = folder (g.S.Tree.files c.gather.new.source) (g.S.Tree.faults c.gather.new.source) in
    let planned = subst (Gathers old new) c.in-Planned.is c.in_ok-ended.ensures.gathers in
    links-task old new site cache c.in-Planned.plan planned.1 c.gather.ensures.same c.gather.ensures.later c.test_links.result c.test_links.ensures
