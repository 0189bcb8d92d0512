use Rattle.std.proofs.Common.{ap, ◌∙◌}
use Rattle.hk_rules.specs.SiteMap.{site_in}
use Rattle.hk_rules.specs.Clashes.{clash_by}
use Rattle.hk_rules.proofs.Clashing.{site_at-turn, same-turn}
use Rattle.hk_rules.proofs.clashes.place.Goals as goal

pub loop-site-preserved : goal.loop-site-preserved
loop-site-preserved c = record {
  sites = λ path. site_at-turn c.args.all.now c.loop-site.site-index c.site-item.result path _ _ c.loop-site-test.true c.site-item.is (c.loop-site.invariant.sites path) (c.in_ok-know.ensures path);
  same = same-turn c.args.all.now c.loop-site.site-index c.site-item.result (site_in c.loop-site.sites.entries) c.loop-site.same c.in_ok-clash.clash _ _ c.loop-site-test.true c.site-item.is c.loop-site.invariant.sites (c.in_ok-clash.ensures ∙ ap (clash_by c.site-item.result) (c.get-in-loop-site.ensures.value ∙ ap (site_in c.loop-site.sites.entries) (c.as_slice.ensures ∙ ap (λ s. s.target) c.get.ensures))) c.lesser-same.ensures c.loop-site.invariant.same;
}
