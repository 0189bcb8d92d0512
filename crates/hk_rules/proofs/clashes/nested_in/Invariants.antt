use Rattle.std.proofs.Common.{◌≡◌}
use Rattle.std.specs.Prelude.{fold}
use Rattle.std.specs.List.{range_with_len}
use Rattle.hk_rules.specs.SiteMap.{site_in}
use Rattle.hk_rules.specs.Clashes.{lesser_above}
use Rattle.hk_rules.proofs.clashes.nested_in.Given as goal

abbrev pub invariant-loop-place : goal.invariant-loop-place
invariant-loop-place l = l.best ≡ fold (lesser_above (site_in l.sites.entries) l.inner) l.initial.best (range_with_len 0 l.place)
