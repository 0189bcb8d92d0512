use Rattle.std.proofs.Common.{◌≡◌, ◌∙◌, ap, sym, refl, subst, arith, length, IfSome, List, Err}
use Rattle.std.specs.Prelude.{IsErrOf}
use Rattle.std.specs.FinMap.{entries}
use Rattle.std.proofs.lemmas.Result.{err_from_is_err_and}
use Rattle.hk_base.specs.Bytes.{Bytes, ascends, paths_of}
use Rattle.hk_base.proofs.Ascending.{ascends-entries}
use Rattle.hk_build.specs.Build.{image, site_of}
use Rattle.hk_outside.specs.declared.tree.TreeFault.TheVariants.{NoMemory}
use Rattle.hk_reuse.specs.Entries.{entries_in}
use Rattle.hk_writer.specs.Pages.{pages_of}
use Rattle.hk_writer.specs.Written.{IsWritten}
use Rattle.hk_app.specs.Finishing.{Saves}
use Rattle.hk_app.specs.Run.{EndsBuild, among}
use Rattle.hk_app.specs.TakenBy.{taken_by}
use Rattle.hk_app.specs.World.{folder, folders}
use Rattle.hk_app.proofs.BuildEnds.{counted, holds-all, made-pages, past-pages, written-run}
use Rattle.hk_app.proofs.finishing.write.Goals as goal

pub write_site-requires : goal.write_site-requires
write_site-requires g c =
    let over = entries_in c.args.taken.now.stored in
    ap (λ es. ascends (paths_of es)) (ap pages_of c.deref.ensures.value ∙ c.in_ok-pages.ensures.site over c.requires.built.results c.requires.all) ∙ ascends-entries (site_of c.args.plan.now over)

pub done-requires : goal.done-requires
done-requires g c =
    let over = entries_in c.args.taken.now.stored in
    omega (arith, c.kept_items_leave_histories.ensures.count c.args.plan.now over, ap length c.requires.built.compiled)

pub returns-in_err-ended-in-Ok-clause-ends : goal.returns-in_err-ended-in-Ok-clause-ends
returns-in_err-ended-in-Ok-clause-ends g c =
    let over = entries_in c.args.taken.now.stored in
    let same : pages_of c.deref.result.now ≡ entries (site_of c.args.plan.now over) = ap pages_of c.deref.ensures.value ∙ c.in_ok-pages.ensures.site over c.requires.built.results c.requires.all in
    let written = subst (λ (ps : List (Bytes × Bytes)). IfSome (g.O.Tree.files c.args.site.now) (λ m. IsWritten ps m (g.O.Tree.files c.write_site.new.site) c.in-Ok.counts)) same c.in-Ok.ensures.done in
    let p = err_from_is_err_and c.from_residual-in_err-ended-in-Ok.result c.from_residual-in_err-ended-in-Ok.ensures.1 in
    λ source source'.
    subst (EndsBuild
    (folders source (folder (g.O.Tree.files c.args.site.now) (g.O.Tree.faults c.args.site.now)) (folder (g.C.Tree.files c.args.cache.now) (g.C.Tree.faults c.args.cache.now)))
    (folders source' (folder (g.O.Tree.files c.write_site.new.site) (g.O.Tree.faults c.write_site.new.site)) (folder (g.C.Tree.files c.args.cache.now) (g.C.Tree.faults c.args.cache.now)))
    c.args.plan.now (taken_by c.args.taken.now)) (sym p.1)
    (past-pages c.args.plan.now (taken_by c.args.taken.now) source source' _ _ _ c.requires.all
    (holds-all (site_of c.args.plan.now over) (g.O.Tree.files c.args.site.now) (g.O.Tree.files c.write_site.new.site) c.in-Ok.counts written))

pub returns-in-Ok-clause-ends : goal.returns-in-Ok-clause-ends
returns-in-Ok-clause-ends g c =
    let over = entries_in c.args.taken.now.stored in
    let same : pages_of c.deref.result.now ≡ entries (site_of c.args.plan.now over) = ap pages_of c.deref.ensures.value ∙ c.in_ok-pages.ensures.site over c.requires.built.results c.requires.all in
    let written = subst (λ (ps : List (Bytes × Bytes)). IfSome (g.O.Tree.files c.args.site.now) (λ m. IsWritten ps m (g.O.Tree.files c.write_site.new.site) c.in-Ok.counts)) same c.in-Ok.ensures.done in
    let store = c.as_slice.ensures ∙ c.requires.built.store in
    λ source source'.
    written-run c.args.plan.now (taken_by c.args.taken.now) source source' _ _ _ _ c.in_ok-ended-in-Ok.ended c.in_ok-ended-in-Ok.ensures.0 c.requires.all
    (holds-all (site_of c.args.plan.now over) (g.O.Tree.files c.args.site.now) (g.O.Tree.files c.write_site.new.site) c.in-Ok.counts written)
    (counted c.args.plan.now (taken_by c.args.taken.now) (length c.args.build.now.compiled.items) (g.O.Tree.files c.args.site.now) (g.O.Tree.files c.write_site.new.site) c.in-Ok.counts c.in_ok-ended-in-Ok.ended.text
    (ap length c.requires.built.compiled) (c.kept_items_leave_histories.ensures.count c.args.plan.now over) c.in_ok-ended-in-Ok.ensures.1 written)
    c.save.result
    (subst (λ b. Saves b c.in_ok-ended-in-Ok.ended (folder (g.C.Tree.files c.args.cache.now) (g.C.Tree.faults c.args.cache.now)) (folder (g.C.Tree.files c.save.new.cache) (g.C.Tree.faults c.save.new.cache)) c.save.result) store c.save.ensures.saves)

pub returns-clause-ends : goal.returns-clause-ends
returns-clause-ends g c =
    let over = entries_in c.args.taken.now.stored in
    let same : pages_of c.deref.result.now ≡ entries (site_of c.args.plan.now over) = ap pages_of c.deref.ensures.value ∙ c.in_ok-pages.ensures.site over c.requires.built.results c.requires.all in
    let wanting : IsErrOf c.write_site.result NoMemory = subst (λ r. IsErrOf r NoMemory) (sym (c.in-Err-NoMemory.is ∙ ap Err c.in-Err-NoMemory.field-0-is)) refl in
    λ source source'.
    among c.requires.all
    (made-pages (site_of c.args.plan.now over) _ (g.O.Tree.files c.args.site.now) (g.O.Tree.files c.write_site.new.site) (IsErrOf c.write_site.result NoMemory) same c.write_site.ensures.makes.kept wanting) refl
