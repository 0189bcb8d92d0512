use Rattle.std.proofs.Common.{subst}
use Rattle.hk_app.specs.Run.{EndsTold}
use Rattle.hk_app.specs.TakenBy.{taken_by}
use Rattle.hk_app.specs.World.{folder, folders}
use Rattle.hk_app.proofs.pool.build_plan.Goals as goal

pub returns-clause-ends : goal.returns-clause-ends
returns-clause-ends g c = λ source source'.
    subst (λ p. EndsTold c.args.options.trace
    (folders source (folder (g.O.Tree.files c.args.site.now) (g.O.Tree.faults c.args.site.now)) (folder (g.C.Tree.files c.args.cache.now) (g.C.Tree.faults c.args.cache.now)))
    (folders source' (folder (g.O.Tree.files c.finish.new.site) (g.O.Tree.faults c.finish.new.site)) (folder (g.C.Tree.files c.finish.new.cache) (g.C.Tree.faults c.finish.new.cache)))
    p (taken_by c.args.taken.now) c.finish.result) c.get.ensures (c.finish.ensures.ends source source')
