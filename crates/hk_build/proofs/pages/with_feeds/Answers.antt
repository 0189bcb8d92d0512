use Rattle.std.proofs.Common.{◌≡◌, ◌<◌, sym, ap, ◌∙◌, ◌+◌, ◌-◌, arith, length}
use Rattle.std.specs.Ordering.{nat_cmp}
use Rattle.std.specs.Cmp.Lexicographic.{slice_cmp}
use Rattle.std.specs.FinMap.Entries.{put}
use Rattle.hk_base.specs.Bytes.{Bytes}
use Rattle.hk_chain.specs.declared.page.Page.{Page}
use Rattle.hk_chain.specs.Kept.{at_place}
use Rattle.hk_build.specs.Pages.{over}
use Rattle.hk_build.proofs.PageMaps.{feeds-upto, feeds-first, feeds-turn}
use Rattle.hk_build.proofs.pages.with_feeds.Goals as goal

pub loop-place-init : goal.loop-place-init
loop-place-init c =
    feeds-first c.args.plan.now (at_place c.args.results.now.pages) c.feeds-feeds.result.now c.args.pages.entries c.feeds-feeds.ensures

pub loop-place-preserved : goal.loop-place-preserved
loop-place-preserved c =
    let k = at_place c.args.results.now.pages in
    let feeds = c.feeds-feeds.result.now in
    let place = c.loop-place.place - 1 in
    let next : c.loop-place.place ≡ place + 1 = omega (arith, c.loop-place-test.true) in
    let within : place < length feeds = omega (arith, c.loop-place-test.true, c.loop-place.auto.place) in
    feeds-turn c.args.plan.now k feeds place c.index-feeds-place.result c.loop-place.pages.entries _ _ within c.index-feeds-place.is
    (c.in_ok-put.ensures ∙ ap (λ (e : Bytes × Page). put (slice_cmp nat_cmp) e.0 e.1 c.loop-place.pages.entries) c.in_ok-page.ensures)
    (ap (λ n. over (feeds-upto c.args.plan.now k feeds n) c.loop-place.pages.entries) (sym next) ∙ c.loop-place.invariant)
