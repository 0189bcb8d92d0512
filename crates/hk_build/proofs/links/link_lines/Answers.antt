use Rattle.std.proofs.Common.{◌≡◌, ◌∙◌, ◌<◌, arith, ap, length, List, map}
use Rattle.std.proofs.lemmas.List.{length-map}
use Rattle.hk_base.specs.Bytes.{Bytes, ascends}
use Rattle.hk_chain.specs.Kept.{at_place}
use Rattle.hk_chain.specs.declared.page.Page.{Page}
use Rattle.hk_build.specs.Pages.{placed_out}
use Rattle.hk_build.proofs.PageMaps.{ascends-pages}
use Rattle.hk_build.proofs.links.link_lines.Goals as goal

pub check_links-requires-clause-few : goal.check_links-requires-clause-few
check_links-requires-clause-few c = omega (arith, c.deref.ensures.len, c.len.ensures, c.if-len.false)

pub check_links-requires-clause-sorted : goal.check_links-requires-clause-sorted
check_links-requires-clause-sorted c =
    let paths = ap ascends (c.deref.ensures.value ∙ c.in_ok-targets.ensures.targets) in
    let rising = ap (λ (es : List (Bytes × Page)). ascends (map (λ e. e.0) es)) c.in_ok-outs.ensures.pages ∙ ascends-pages c.args.plan.now (at_place c.args.results.now.pages) in
    paths ∙ rising
