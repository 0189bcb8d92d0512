use Rattle.std.proofs.Common.{◌≡◌, ◌++◌, drop, codes}
use Rattle.std.specs.List.{flat_map}
use Rattle.hk_rules.specs.Plan.{lookups}
use Rattle.hk_texts.specs.ReportText.{item_text}
use Rattle.hk_texts.proofs.report.write_arrows.Given as goal

-- the text so far and that of the rest are all
abbrev pub invariant-loop-item : goal.invariant-loop-item
invariant-loop-item l = l.out.items ++ flat_map (λ item. codes " -> " ++ item_text (lookups l.plan) item) (drop l.item-index l.items) ≡ l.fn.out.items ++ flat_map (λ item. codes " -> " ++ item_text (lookups l.plan) item) l.items
