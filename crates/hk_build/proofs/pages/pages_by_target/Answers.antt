use Rattle.std.proofs.Common.{◌≡◌, sym, ap, ◌∙◌, ◌+◌, ◌-◌, arith, length, option_map}
use Rattle.hk_chain.specs.Kept.{at_place}
use Rattle.hk_build.specs.Pages.{over, placed_out}
use Rattle.hk_build.proofs.PageMaps.{pages-upto, pages-first, pages-turn}
use Rattle.hk_build.proofs.pages.pages_by_target.Goals as goal

pub loop-item-init : goal.loop-item-init
loop-item-init c =
    let k = at_place c.args.known.now in
    ap (λ n. over (pages-upto c.args.plan.now k n) c.new-pages.result.entries) c.count-item.ensures.items
    ∙ ap (λ es. over (pages-upto c.args.plan.now k (length c.args.plan.now.items)) es) c.new-pages.ensures.empty
    ∙ pages-first c.args.plan.now k

pub loop-item-preserved : goal.loop-item-preserved
loop-item-preserved c =
    let k = at_place c.args.known.now in
    let place = c.loop-item.item - 1 in
    let next : c.loop-item.item ≡ place + 1 = omega (arith, c.loop-item-test.true) in
    pages-turn c.args.plan.now k place (option_map placed_out c.in_ok-page.page) c.loop-item.pages.entries _ _ c.in_ok-page.ensures c.in_ok-put.ensures
    (ap (λ n. over (pages-upto c.args.plan.now k n) c.loop-item.pages.entries) (sym next) ∙ c.loop-item.invariant)
