use Rattle.std.proofs.Common.{refl, subst, Ok}
use Rattle.std.proofs.lemmas.Result.{err_from_is_err_and}
use Rattle.hk_words.specs.declared.commands.Command.TheVariants.{Rebuild}
use Rattle.hk_app.specs.Beginning.{HasBegun}
use Rattle.hk_app.specs.World.{folder, folders}
use Rattle.hk_app.proofs.Beginnings.{begun-over, begun-wants, ready-rebuild}
use Rattle.hk_app.proofs.Endings.{task-ends}
use Rattle.hk_app.proofs.pool.rebuild.Goals as goal

pub returns-in_err-ended : goal.returns-in_err-ended
returns-in_err-ended g c =
    let p = err_from_is_err_and c.from_residual.result c.from_residual.ensures.1 in
    let began = c.begin_rebuild.ensures (folder (g.O.Tree.files c.args.site.now) (g.O.Tree.faults c.args.site.now)) (folder (g.C.Tree.files c.args.cache.now) (g.C.Tree.faults c.args.cache.now)) in
    task-ends _ (Rebuild c.args.options) _ _ c.from_residual.result c.requires (begun-wants _ _ _ _ _ began.still (Rebuild c.args.options) refl c.from_residual.result p.0 p.1)

pub build_plan-requires-clause-planned : goal.build_plan-requires-clause-planned
build_plan-requires-clause-planned g c κs within =
    let began = c.in_ok-ended.ensures (folder (g.O.Tree.files c.args.site.now) (g.O.Tree.faults c.args.site.now)) (folder (g.C.Tree.files c.args.cache.now) (g.C.Tree.faults c.args.cache.now)) in
    (subst (HasBegun (Rebuild c.args.options) (folders (folder (g.S.Tree.files c.args.source.now) (g.S.Tree.faults c.args.source.now)) (folder (g.O.Tree.files c.args.site.now) (g.O.Tree.faults c.args.site.now)) (folder (g.C.Tree.files c.args.cache.now) (g.C.Tree.faults c.args.cache.now))) (folders (folder (g.S.Tree.files c.begin_rebuild.new.source) (g.S.Tree.faults c.begin_rebuild.new.source)) (folder (g.O.Tree.files c.args.site.now) (g.O.Tree.faults c.args.site.now)) (folder (g.C.Tree.files c.args.cache.now) (g.C.Tree.faults c.args.cache.now)))) c.in-Ready.is began.begun).planned

pub build_plan-requires-clause-stored : goal.build_plan-requires-clause-stored
build_plan-requires-clause-stored g c κs within =
    let began = c.in_ok-ended.ensures (folder (g.O.Tree.files c.args.site.now) (g.O.Tree.faults c.args.site.now)) (folder (g.C.Tree.files c.args.cache.now) (g.C.Tree.faults c.args.cache.now)) in
    (subst (HasBegun (Rebuild c.args.options) (folders (folder (g.S.Tree.files c.args.source.now) (g.S.Tree.faults c.args.source.now)) (folder (g.O.Tree.files c.args.site.now) (g.O.Tree.faults c.args.site.now)) (folder (g.C.Tree.files c.args.cache.now) (g.C.Tree.faults c.args.cache.now))) (folders (folder (g.S.Tree.files c.begin_rebuild.new.source) (g.S.Tree.faults c.begin_rebuild.new.source)) (folder (g.O.Tree.files c.args.site.now) (g.O.Tree.faults c.args.site.now)) (folder (g.C.Tree.files c.args.cache.now) (g.C.Tree.faults c.args.cache.now)))) c.in-Ready.is began.begun).stored

pub returns-in-Over : goal.returns-in-Over
returns-in-Over g c =
    let began = c.in_ok-ended.ensures (folder (g.O.Tree.files c.args.site.now) (g.O.Tree.faults c.args.site.now)) (folder (g.C.Tree.files c.args.cache.now) (g.C.Tree.faults c.args.cache.now)) in
    let over = subst (HasBegun (Rebuild c.args.options) (folders (folder (g.S.Tree.files c.args.source.now) (g.S.Tree.faults c.args.source.now)) (folder (g.O.Tree.files c.args.site.now) (g.O.Tree.faults c.args.site.now)) (folder (g.C.Tree.files c.args.cache.now) (g.C.Tree.faults c.args.cache.now))) (folders (folder (g.S.Tree.files c.begin_rebuild.new.source) (g.S.Tree.faults c.begin_rebuild.new.source)) (folder (g.O.Tree.files c.args.site.now) (g.O.Tree.faults c.args.site.now)) (folder (g.C.Tree.files c.args.cache.now) (g.C.Tree.faults c.args.cache.now)))) c.in-Over.is began.begun in
    task-ends _ (Rebuild c.args.options) _ _ (Ok c.in-Over.ended) c.requires (begun-over _ _ _ _ _ began.still (Rebuild c.args.options) c.in-Over.ended over)

pub returns-in-Ready : goal.returns-in-Ready
returns-in-Ready g c =
    let began = c.in_ok-ended.ensures (folder (g.O.Tree.files c.args.site.now) (g.O.Tree.faults c.args.site.now)) (folder (g.C.Tree.files c.args.cache.now) (g.C.Tree.faults c.args.cache.now)) in
    let ready = subst (HasBegun (Rebuild c.args.options) (folders (folder (g.S.Tree.files c.args.source.now) (g.S.Tree.faults c.args.source.now)) (folder (g.O.Tree.files c.args.site.now) (g.O.Tree.faults c.args.site.now)) (folder (g.C.Tree.files c.args.cache.now) (g.C.Tree.faults c.args.cache.now))) (folders (folder (g.S.Tree.files c.begin_rebuild.new.source) (g.S.Tree.faults c.begin_rebuild.new.source)) (folder (g.O.Tree.files c.args.site.now) (g.O.Tree.faults c.args.site.now)) (folder (g.C.Tree.files c.args.cache.now) (g.C.Tree.faults c.args.cache.now)))) c.in-Ready.is began.begun in
    task-ends _ (Rebuild c.args.options) _ _ c.build_plan.result c.requires (ready-rebuild _ _ _ _ _ began.still _ _ c.build_plan.ensures.site c.build_plan.ensures.cache c.args.options c.in-Ready.plan c.in-Ready.taken ready c.build_plan.result (c.build_plan.ensures.ends _ _))
