use Rattle.std.proofs.Common.{◌≡◌, ◌++◌, take}
use Rattle.std.specs.List.{flat_map}
use Rattle.hk_links.specs.Printed.{broken_line_of}
use Rattle.hk_links.proofs.printed.write_broken.Given as goal

abbrev pub invariant-loop-broken : goal.invariant-loop-broken
invariant-loop-broken l = l.text.items ≡ l.initial.text.items ++ flat_map (broken_line_of l.targets) (take l.broken-index l.all)
