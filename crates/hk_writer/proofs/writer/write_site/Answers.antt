use Rattle.std.proofs.Common.{sym, refl, [], append-nil, ℕ}
use Rattle.std.proofs.lemmas.Result.{err_from_is_err_and}
use Rattle.hk_writer.specs.declared.writer.Counts.{Counts}
use Rattle.hk_writer.specs.Pages.{pages_of}
use Rattle.hk_writer.specs.Writing.{changes, removals, writings, after}
use Rattle.hk_writer.proofs.WholeSite.{whole-list, whole-making, whole-counted, whole-written}
use Rattle.hk_writer.proofs.Making.{making-stop, making-turn, making-end}
use Rattle.hk_writer.proofs.writer.write_site.Goals as goal

pub returns-in_err-removed-clause-makes : goal.returns-in_err-removed-clause-makes
returns-in_err-removed-clause-makes g c =
    let p = err_from_is_err_and c.from_residual-in_err-removed.result c.from_residual-in_err-removed.ensures.1 in
    rw (p.1, p.2) (making-stop {T = ℕ} {U = Counts} (changes (pages_of c.args.pages.now)) _ (λ n. writings (pages_of c.args.pages.now) (after (removals (pages_of c.args.pages.now) c.in_ok-paths.paths.keys) n)) _ _ _ _ c.in_err-removed.field-0.0
    (whole-list _ _ (pages_of c.args.pages.now) _ c.in_ok-paths.paths c.in_ok-listed.ensures.each c.in_ok-paths.ensures c.list.ensures.same) c.in_err-removed.ensures.makes (whole-making _ _ (pages_of c.args.pages.now) c.list.ensures.same))

pub returns-in_err-written-clause-makes : goal.returns-in_err-written-clause-makes
returns-in_err-written-clause-makes g c =
    let p = err_from_is_err_and c.from_residual-in_err-written.result c.from_residual-in_err-written.ensures.1 in
    let removed = making-turn (changes (pages_of c.args.pages.now)) _ (writings (pages_of c.args.pages.now)) _ _ _ _
    (whole-list _ _ (pages_of c.args.pages.now) _ c.in_ok-paths.paths c.in_ok-listed.ensures.each c.in_ok-paths.ensures c.list.ensures.same) c.in_ok-removed.ensures.makes.done (whole-making _ _ (pages_of c.args.pages.now) c.list.ensures.same) in
    rw (p.1, p.2) (making-stop {T = ℕ} {U = Counts} (writings (pages_of c.args.pages.now)) (writings (pages_of c.args.pages.now)) (λ n. []) _ _ _ _ c.in_err-written.field-0.0
    (λ n told. sym (append-nil (writings (pages_of c.args.pages.now) n))) c.in_err-written.ensures.makes removed)

pub returns-clause-makes : goal.returns-clause-makes
returns-clause-makes g c =
    let removed = making-turn (changes (pages_of c.args.pages.now)) _ (writings (pages_of c.args.pages.now)) _ _ _ _
    (whole-list _ _ (pages_of c.args.pages.now) _ c.in_ok-paths.paths c.in_ok-listed.ensures.each c.in_ok-paths.ensures c.list.ensures.same) c.in_ok-removed.ensures.makes.done (whole-making _ _ (pages_of c.args.pages.now) c.list.ensures.same) in
    let written = making-turn (writings (pages_of c.args.pages.now)) _ (λ n. []) _ _ _ _ (λ n told. sym (append-nil (writings (pages_of c.args.pages.now) n))) c.in_ok-written.ensures.makes.done removed in
    making-end (λ n. []) _ _ _ _ (λ n. refl) written

pub returns-clause-done : goal.returns-clause-done
returns-clause-done g c =
    let removed = making-turn (changes (pages_of c.args.pages.now)) _ (writings (pages_of c.args.pages.now)) _ _ _ _
    (whole-list _ _ (pages_of c.args.pages.now) _ c.in_ok-paths.paths c.in_ok-listed.ensures.each c.in_ok-paths.ensures c.list.ensures.same) c.in_ok-removed.ensures.makes.done (whole-making _ _ (pages_of c.args.pages.now) c.list.ensures.same) in
    let written = making-turn (writings (pages_of c.args.pages.now)) _ (λ n. []) _ _ _ _ (λ n told. sym (append-nil (writings (pages_of c.args.pages.now) n))) c.in_ok-written.ensures.makes.done removed in
    let counted = whole-counted (g.T.Tree.files c.args.site.now) (g.T.Tree.files c.list.new.self) (g.T.Tree.files c.remove_others.new.site) (pages_of c.args.pages.now) _ c.in_ok-paths.paths c.in_ok-removed.removed c.in_ok-written.written
    c.in_ok-listed.ensures.each c.in_ok-paths.ensures c.list.ensures.same c.in_ok-removed.ensures.makes.done c.in_ok-removed.ensures.counted c.in_ok-written.ensures.counted in
    whole-written (g.T.Tree.files c.args.site.now) (g.T.Tree.files c.write_pages.new.site) (pages_of c.args.pages.now) _ _ c.requires written counted
