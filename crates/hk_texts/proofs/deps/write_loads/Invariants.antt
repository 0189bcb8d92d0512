use Rattle.std.proofs.Common.{◌≡◌, ◌++◌, drop}
use Rattle.std.specs.List.{flat_map}
use Rattle.hk_rules.specs.Plan.{lookups}
use Rattle.hk_texts.specs.DepsText.{loads_line}
use Rattle.hk_texts.proofs.deps.write_loads.Given as goal

-- the text so far and that of the rest are all
abbrev pub invariant-loop-pair : goal.invariant-loop-pair
invariant-loop-pair l = l.out.items ++ flat_map (loads_line (lookups l.plan)) (drop l.pair-index l.asks) ≡ l.fn.out.items ++ flat_map (loads_line (lookups l.plan)) l.asks
