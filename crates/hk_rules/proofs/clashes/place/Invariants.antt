use Rattle.std.proofs.Common.{◌≡◌, take, drop}
use Rattle.hk_base.specs.Bytes.{Bytes}
use Rattle.hk_rules.specs.SiteMap.{site_in}
use Rattle.hk_rules.specs.Clashes.{site_at, same_after, same_clash}
use Rattle.hk_rules.proofs.clashes.place.Given as goal

abbrev pub invariant-loop-site : goal.invariant-loop-site
invariant-loop-site l = record {
  sites : (path : Bytes) → site_in l.sites.entries path ≡ site_at (take l.site-index l.all) path;
  same : same_after (take l.site-index l.all) l.same (drop l.site-index l.all) ≡ same_clash l.all;
}
