use Rattle.std.proofs.Common.{◌≡◌}
use Rattle.std.specs.Ordering.{nat_cmp}
use Rattle.std.specs.Cmp.Lexicographic.{slice_cmp}
use Rattle.std.specs.BTreeMap.{get}
use Rattle.hk_base.specs.Bytes.{Bytes}
use Rattle.hk_rules.specs.Sources.{others, companions, text_at}
use Rattle.hk_rules.proofs.sources.part_files.Given as goal

-- the files that came
abbrev pub invariant-loop-path : goal.invariant-loop-path
invariant-loop-path l = record {
  others : l.others.items ≡ others l.yielded;
  companions : (path : Bytes) → get (slice_cmp nat_cmp) l.companions path ≡ text_at (companions l.yielded) path;
}
