use Rattle.std.proofs.Common.{◌≡◌}
use Rattle.std.specs.Ordering.{nat_cmp}
use Rattle.std.specs.Cmp.Lexicographic.{slice_cmp}
use Rattle.std.specs.BTreeMap.{get}
use Rattle.hk_rules.specs.Sources.{sources_by}
use Rattle.hk_rules.proofs.sources.sources_by.Given as goal

abbrev pub invariant-loop-path : goal.invariant-loop-path
invariant-loop-path l = l.sources.items ≡ sources_by (get (slice_cmp nat_cmp) l.companions) l.yielded
