use Rattle.std.proofs.Common.{◌∙◌, ap, List, Option}
use Rattle.hk_chain.specs.declared.page.Page.{Page}
use Rattle.hk_chain.specs.Kept.{at_place}
use Rattle.hk_build.specs.Pages.{item_pages}
use Rattle.hk_build.proofs.PageMaps.{both-pages, same-pages, site-sorted}
use Rattle.hk_build.proofs.pages.site_pages.Goals as goal

pub returns-clause-pages : goal.returns-clause-pages
returns-clause-pages c = same-pages c.in_order.result _ _ (both-pages c.args.plan.now (at_place c.args.results.now.pages) _ _ c.in_ok-pages-2.ensures
    (c.in_ok-pages.ensures ∙ ap (λ (ps : List (Option Page)). item_pages c.args.plan.now (at_place ps)) c.known_pages.ensures)) c.in_order.ensures

pub returns-clause-site : goal.returns-clause-site
returns-clause-site c = site-sorted c.args.plan.now c.args.results.now c.in_order.result
    (same-pages c.in_order.result _ _ (both-pages c.args.plan.now (at_place c.args.results.now.pages) _ _ c.in_ok-pages-2.ensures
    (c.in_ok-pages.ensures ∙ ap (λ (ps : List (Option Page)). item_pages c.args.plan.now (at_place ps)) c.known_pages.ensures)) c.in_order.ensures)
