use Rattle.std.proofs.Common.{◌≡◌, ◌++◌, drop, codes}
use Rattle.std.specs.List.{flat_map}
use Rattle.hk_rules.specs.Plan.{lookups}
use Rattle.hk_texts.specs.ReportText.{pair_text}
use Rattle.hk_texts.proofs.report.write_others.Given as goal

-- the text so far and that of the rest are all
abbrev pub invariant-loop-pair : goal.invariant-loop-pair
invariant-loop-pair l = l.out.items ++ flat_map (λ pair. codes ", " ++ pair_text (lookups l.plan) pair) (drop l.pair-index l.waits) ≡ l.fn.out.items ++ flat_map (λ pair. codes ", " ++ pair_text (lookups l.plan) pair) l.waits
