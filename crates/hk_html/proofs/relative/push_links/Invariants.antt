use Rattle.std.proofs.Common.{◌≡◌, ◌++◌, take}
use Rattle.hk_html.specs.Scan.{links_with_root}
use Rattle.hk_html.proofs.relative.push_links.Given as goal

abbrev pub invariant-loop-link : goal.invariant-loop-link
invariant-loop-link l = l.text.items ≡ l.initial.text.items ++ links_with_root l.root (take l.link-index l.links)
