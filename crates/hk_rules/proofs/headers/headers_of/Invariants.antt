use Rattle.std.proofs.Common.{◌≡◌, take, Ok}
use Rattle.hk_rules.specs.Outcomes.{each}
use Rattle.hk_rules.specs.Headers.{header_of}
use Rattle.hk_rules.proofs.headers.headers_of.Given as goal

abbrev pub invariant-loop-item : goal.invariant-loop-item
invariant-loop-item l = each header_of (take l.item-index l.items) ≡ Ok l.headers.items
