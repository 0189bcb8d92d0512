use Rattle.std.proofs.Common.{◌≡◌, take}
use Rattle.hk_html.specs.Scan.{link_values}
use Rattle.hk_html.proofs.relative.links.Given as goal

abbrev pub invariant-loop-link : goal.invariant-loop-link
invariant-loop-link l = l.found.items ≡ link_values (take l.link-index l.link-items)
