use Rattle.hk_app.specs.TakenBy.{taken_by}
use Rattle.hk_app.specs.World.{folder, folders}
use Rattle.hk_app.proofs.BuildEnds.{told-end}
use Rattle.hk_app.proofs.finishing.finish.Goals as goal

pub returns-clause-ends : goal.returns-clause-ends
returns-clause-ends g c = λ source source'.
    told-end c.args.plan.now (taken_by c.args.taken.now)
    (folders source (folder (g.O.Tree.files c.args.site.now) (g.O.Tree.faults c.args.site.now)) (folder (g.C.Tree.files c.args.cache.now) (g.C.Tree.faults c.args.cache.now)))
    (folders source' (folder (g.O.Tree.files c.settle.new.site) (g.O.Tree.faults c.settle.new.site)) (folder (g.C.Tree.files c.settle.new.cache) (g.C.Tree.faults c.settle.new.cache)))
    c.args.trace c.in_ok-front.front c.in_ok-ended.ended c.after.result c.in_ok-front.ensures (c.in_ok-ended.ensures.ends source source') c.after.ensures
