use Rattle.std.proofs.Common.{◌≡◌, ◌++◌, map}
use Rattle.hk_build.specs.Pages.{placed_out}
use Rattle.hk_build.proofs.pages.in_order.Given as goal

-- the pages so far and those that are left are all
abbrev pub invariant-loop-target : goal.invariant-loop-target
invariant-loop-target l = map placed_out l.ordered.items ++ l.target-iterator ≡ l.fn.pages.entries
