use Rattle.std.proofs.Common.{◌≡◌, ◌∙◌, ap, sym, refl, subst, Err}
use Rattle.std.specs.Prelude.{IsErrOf}
use Rattle.hk_outside.specs.declared.tree.TreeFault.TheVariants.{Failed, NoMemory}
use Rattle.hk_app.specs.Finishing.{Moves}
use Rattle.hk_app.specs.World.{folder}
use Rattle.hk_app.proofs.Cleanings.{cleaned, failed-site, wanting-site}
use Rattle.hk_app.proofs.Removing.{cleared, lost-failed, lost-wanting, removed-all}
use Rattle.hk_app.proofs.cleaning.clean.Goals as goal

pub returns-in-Ok : goal.returns-in-Ok
returns-in-Ok g c =
    let old = g.O.Tree.files c.args.site.now in
    let new = g.O.Tree.files c.write_site.new.site in
    let moves : Moves (folder old (g.O.Tree.faults c.args.site.now)) (folder new (g.O.Tree.faults c.write_site.new.site)) = record { told = c.write_site.ensures.makes.told; later = c.write_site.ensures.cause.later } in
    λ source. cleaned source _ _ _ _ moves c.in-Ok.counts.removed (removed-all old new c.in-Ok.counts c.in-Ok.ensures.done) (cleared old new c.in-Ok.counts c.in-Ok.ensures.done) c.clear_cache.ensures.moves c.clear_cache.result c.clear_cache.ensures.clears

pub returns-in-Err-Failed : goal.returns-in-Err-Failed
returns-in-Err-Failed g c =
    let old = g.O.Tree.files c.args.site.now in
    let new = g.O.Tree.files c.write_site.new.site in
    let moves : Moves (folder old (g.O.Tree.faults c.args.site.now)) (folder new (g.O.Tree.faults c.write_site.new.site)) = record { told = c.write_site.ensures.makes.told; later = c.write_site.ensures.cause.later } in
    let failed : IsErrOf c.write_site.result Failed = subst (λ r. IsErrOf r Failed) (sym (c.in-Err-Failed.is ∙ ap Err c.in-Err-Failed.field-0-is)) refl in
    λ source. failed-site source _ _ _ moves (c.write_site.ensures.cause.failed failed) (lost-failed (IsErrOf c.write_site.result Failed) old new c.write_site.ensures.makes.torn failed) c.new.result c.new.ensures

pub returns-in-Err-NoMemory : goal.returns-in-Err-NoMemory
returns-in-Err-NoMemory g c =
    let old = g.O.Tree.files c.args.site.now in
    let new = g.O.Tree.files c.write_site.new.site in
    let moves : Moves (folder old (g.O.Tree.faults c.args.site.now)) (folder new (g.O.Tree.faults c.write_site.new.site)) = record { told = c.write_site.ensures.makes.told; later = c.write_site.ensures.cause.later } in
    let wanting : IsErrOf c.write_site.result NoMemory = subst (λ r. IsErrOf r NoMemory) (sym (c.in-Err-NoMemory.is ∙ ap Err c.in-Err-NoMemory.field-0-is)) refl in
    λ source. wanting-site source _ _ _ moves (lost-wanting (IsErrOf c.write_site.result NoMemory) old new c.write_site.ensures.makes.kept wanting)
