use Rattle.std.proofs.Common.{◌≡◌, drop}
use Rattle.std.specs.List.{list_all, list_any}
use Rattle.std.specs.Option.{option_copied}
use Rattle.hk_pattern.specs.Pattern.{matches}
use Rattle.hk_pattern.proofs.pattern.+matching.Given as goal

abbrev pub invariant-all_match-loop-pattern : goal.invariant-all_match-loop-pattern
invariant-all_match-loop-pattern l =
    list_all (λ p. matches p l.path (option_copied l.version)) (drop l.pattern-index l.patterns) ≡ list_all (λ p. matches p l.path (option_copied l.version)) l.patterns

abbrev pub invariant-any_matches-loop-pattern : goal.invariant-any_matches-loop-pattern
invariant-any_matches-loop-pattern l =
    list_any (λ p. matches p l.path (option_copied l.version)) (drop l.pattern-index l.patterns) ≡ list_any (λ p. matches p l.path (option_copied l.version)) l.patterns
