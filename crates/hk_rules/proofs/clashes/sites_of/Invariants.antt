use Rattle.std.proofs.Common.{◌≡◌, take}
use Rattle.std.specs.Prelude.{filter_map, zip}
use Rattle.hk_rules.specs.Clashes.{site_of}
use Rattle.hk_rules.proofs.clashes.sites_of.Given as goal

abbrev pub invariant-loop-index : goal.invariant-loop-index
invariant-loop-index l = l.sites.items ≡ filter_map site_of (take l.index (zip l.items l.targets))
