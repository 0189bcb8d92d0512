use Rattle.std.proofs.Common.{◌≡◌, take}
use Rattle.hk_rules.specs.SiteMap.{site_in}
use Rattle.hk_rules.specs.Clashes.{nested_clash}
use Rattle.hk_rules.proofs.clashes.nested_clash.Given as goal

abbrev pub invariant-loop-inner : goal.invariant-loop-inner
invariant-loop-inner l = l.best ≡ nested_clash (site_in l.sites.entries) (take l.inner-index l.all)
