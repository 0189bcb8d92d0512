use Rattle.std.proofs.Common.{◌≡◌, ◌∙◌, ap, sym, refl, subst, Err}
use Rattle.std.specs.Prelude.{IsErrOf}
use Rattle.std.proofs.lemmas.Result.{err_from_is_err_and}
use Rattle.hk_outside.specs.declared.tree.TreeFault.TheVariants.{Failed, NoMemory}
use Rattle.hk_app.specs.Cleaning.{ClearsCache}
use Rattle.hk_app.specs.World.{folder}
use Rattle.hk_app.proofs.Removing.{cleared, clears-done, clears-failed, lost-all, lost-failed, lost-wanting}
use Rattle.hk_app.proofs.cleaning.clear_cache.Goals as goal

pub returns-in_err-removed_line-in-Ok-clause-clears : goal.returns-in_err-removed_line-in-Ok-clause-clears
returns-in_err-removed_line-in-Ok-clause-clears g c =
    let p = err_from_is_err_and c.from_residual.result c.from_residual.ensures.1 in
    subst (ClearsCache c.args.before (folder (g.C.Tree.files c.args.cache.now) (g.C.Tree.faults c.args.cache.now)) (folder (g.C.Tree.files c.write_site.new.site) (g.C.Tree.faults c.write_site.new.site))) (sym p.1)
    (lost-all (g.C.Tree.files c.args.cache.now) (g.C.Tree.files c.write_site.new.site) (cleared (g.C.Tree.files c.args.cache.now) (g.C.Tree.files c.write_site.new.site) c.in-Ok.counts c.in-Ok.ensures.done))

pub returns-in_ok-removed_line-in-Ok-clause-clears : goal.returns-in_ok-removed_line-in-Ok-clause-clears
returns-in_ok-removed_line-in-Ok-clause-clears g c =
    clears-done c.args.before (folder (g.C.Tree.files c.args.cache.now) (g.C.Tree.faults c.args.cache.now)) (folder (g.C.Tree.files c.write_site.new.site) (g.C.Tree.faults c.write_site.new.site))
    c.in-Ok.counts c.in_ok-removed_line-in-Ok.field-0 c.in-Ok.ensures.done c.in_ok-removed_line-in-Ok.ensures

pub returns-in-Err-Failed-clause-clears : goal.returns-in-Err-Failed-clause-clears
returns-in-Err-Failed-clause-clears g c =
    let failed : IsErrOf c.write_site.result Failed = subst (λ r. IsErrOf r Failed) (sym (c.in-Err-Failed.is ∙ ap Err c.in-Err-Failed.field-0-is)) refl in
    clears-failed c.args.before (folder (g.C.Tree.files c.args.cache.now) (g.C.Tree.faults c.args.cache.now)) (folder (g.C.Tree.files c.write_site.new.site) (g.C.Tree.faults c.write_site.new.site))
    c.new.result (c.write_site.ensures.cause.failed failed)
    (lost-failed (IsErrOf c.write_site.result Failed) (g.C.Tree.files c.args.cache.now) (g.C.Tree.files c.write_site.new.site) c.write_site.ensures.makes.torn failed) c.new.ensures

pub returns-in-Err-NoMemory-clause-clears : goal.returns-in-Err-NoMemory-clause-clears
returns-in-Err-NoMemory-clause-clears g c =
    let wanting : IsErrOf c.write_site.result NoMemory = subst (λ r. IsErrOf r NoMemory) (sym (c.in-Err-NoMemory.is ∙ ap Err c.in-Err-NoMemory.field-0-is)) refl in
    lost-wanting (IsErrOf c.write_site.result NoMemory) (g.C.Tree.files c.args.cache.now) (g.C.Tree.files c.write_site.new.site) c.write_site.ensures.makes.kept wanting
