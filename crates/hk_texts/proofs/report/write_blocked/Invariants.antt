use Rattle.std.proofs.Common.{◌≡◌, ◌++◌, drop, map}
use Rattle.std.specs.List.{flat_map}
use Rattle.hk_rules.specs.Plan.{lookups}
use Rattle.hk_texts.specs.ReportText.{blocked_line}
use Rattle.hk_texts.proofs.report.write_blocked.Given as goal

-- the text so far and that of the rest are all
abbrev pub invariant-loop-item : goal.invariant-loop-item
invariant-loop-item l = l.out.items ++ flat_map (blocked_line (lookups l.plan)) (map (λ b. (b.0, b.1.items)) (drop l.item-index l.blocked)) ≡ l.fn.out.items ++ flat_map (blocked_line (lookups l.plan)) (map (λ b. (b.0, b.1.items)) l.blocked)
