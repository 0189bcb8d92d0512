use Rattle.std.proofs.Common.{sym, ap, ◌∙◌, subst, ◌≤◌}
use Rattle.std.specs.List.{AllByRecursion}
use Rattle.std.proofs.lemmas.Result.{err_from_is_err_and}
use Rattle.hk_rules.specs.Plan.{lookups}
use Rattle.hk_rules_file.specs.declared.tables.PageRule.{PageRule}
use Rattle.hk_tags.specs.Expanding.{expand}
use Rattle.hk_tags.proofs.Expansion.{expanded-on, stopped-at-tags, stopped-at-pages, tags-ready, pages-ready, pages-have-some}
use Rattle.hk_tags.proofs.expanding.expanded.Goals as goal

pub grown_of-requires : goal.grown_of-requires
grown_of-requires c = c.requires.linked.named.texts

pub with_tags-requires : goal.with_tags-requires
with_tags-requires c =
    tags-ready (lookups c.args.base.now) c.args.rules.now c.in_ok-grown.grown c.deref.result.now c.in_ok-grown.ensures (c.deref.ensures.value ∙ ap (λ r. r.tags) c.rules.view_is) c.requires.tables

pub with_pieces-requires-clause-contexts : goal.with_pieces-requires-clause-contexts
with_pieces-requires-clause-contexts c =
    pages-ready (lookups c.args.base.now) c.args.rules.now c.in_ok-grown.grown c.deref.result.now c.in_ok-grown.ensures (c.deref.ensures.value ∙ ap (λ r. r.tags) c.rules.view_is)
    c.in_ok-tagged.tagged c.deref-2.result.now c.requires.tables c.in_ok-tagged.ensures.more (c.deref-2.ensures.value ∙ ap (λ r. r.pages) c.rules.view_is)

pub with_pieces-requires-clause-some : goal.with_pieces-requires-clause-some
with_pieces-requires-clause-some c =
    subst (AllByRecursion (λ (table : PageRule). 1 ≤ table.per)) (sym (c.deref-2.ensures.value ∙ ap (λ r. r.pages) c.rules.view_is)) (pages-have-some c.args.rules.now c.requires.tables)

pub returns-in_err-tagged : goal.returns-in_err-tagged
unfolding expand
returns-in_err-tagged c =
    let p = err_from_is_err_and c.from_residual-in_err-tagged.result c.from_residual-in_err-tagged.ensures.1 in
    rw (p.1, p.2)
    (stopped-at-tags (lookups c.args.base.now) c.args.rules.now c.in_ok-grown.grown c.deref.result.now c.in_ok-grown.ensures (c.deref.ensures.value ∙ ap (λ r. r.tags) c.rules.view_is) c.in_err-tagged.field-0.0 c.in_err-tagged.ensures.value)

pub returns-in_err-paged : goal.returns-in_err-paged
unfolding expand
returns-in_err-paged c =
    let p = err_from_is_err_and c.from_residual-in_err-paged.result c.from_residual-in_err-paged.ensures.1 in
    rw (p.1, p.2)
    (stopped-at-pages (lookups c.args.base.now) c.args.rules.now c.in_ok-grown.grown c.deref.result.now c.in_ok-grown.ensures (c.deref.ensures.value ∙ ap (λ r. r.tags) c.rules.view_is)
    c.in_ok-tagged.tagged c.deref-2.result.now c.in_err-paged.field-0.0 c.in_ok-tagged.ensures.value (c.deref-2.ensures.value ∙ ap (λ r. r.pages) c.rules.view_is) c.in_err-paged.ensures)

pub returns : goal.returns
unfolding expand
returns c =
    expanded-on (lookups c.args.base.now) c.args.rules.now c.in_ok-grown.grown c.deref.result.now c.in_ok-grown.ensures (c.deref.ensures.value ∙ ap (λ r. r.tags) c.rules.view_is)
    c.in_ok-tagged.tagged c.in_ok-paged.paged c.deref-2.result.now c.deref-3.result.now c.counted.result c.in_ok-tagged.ensures.value (c.deref-2.ensures.value ∙ ap (λ r. r.pages) c.rules.view_is)
    c.in_ok-paged.ensures (c.deref-3.ensures.value ∙ ap (λ r. r.feeds) c.rules.view_is) c.counted.ensures
