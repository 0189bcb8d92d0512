use Rattle.std.proofs.Common.{◌≡◌, ◌++◌, drop}
use Rattle.std.specs.Prelude.{◌||◌}
use Rattle.hk_rules.specs.Flags.{merged}
use Rattle.hk_rules.proofs.matching.either.Given as goal

abbrev pub invariant-loop-index : goal.invariant-loop-index
invariant-loop-index l = l.merged.items ++ merged (λ a b. a || b) (drop l.index l.flags) (drop l.index l.more) ≡ merged (λ a b. a || b) l.flags l.more
