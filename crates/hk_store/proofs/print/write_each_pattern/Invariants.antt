use Rattle.std.proofs.Common.{◌≡◌, ◌++◌, drop}
use Rattle.std.specs.List.{flat_map}
use Rattle.hk_store.specs.StoreText.{match_text}
use Rattle.hk_store.proofs.print.write_each_pattern.Given as goal

-- the text so far and that of the rest are all
abbrev pub invariant-loop-pattern : goal.invariant-loop-pattern
invariant-loop-pattern l = l.out.items ++ flat_map match_text (drop l.pattern-index l.patterns) ≡ l.fn.out.items ++ flat_map match_text l.patterns
