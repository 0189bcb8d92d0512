use Rattle.std.proofs.Common.{◌≡◌}
use Rattle.hk_html.specs.Root.{root_at}
use Rattle.hk_html.proofs.root.root_at.Given as goal

abbrev pub invariant-loop : goal.invariant-loop
invariant-loop l = l.root.items ≡ root_at l.counter
