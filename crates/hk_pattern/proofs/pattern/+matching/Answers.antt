-- A list of patterns is tested one by one.
use Rattle.std.proofs.Common.{sym, ap, ◌∙◌}
use Rattle.std.specs.Option.{option_copied}
use Rattle.std.specs.List.{list_all, list_any}
use Rattle.hk_pattern.specs.Pattern.{matches}
use Rattle.hk_pattern.proofs.Matching.{matches-and, matches-or}
use Rattle.hk_pattern.proofs.pattern.+matching.Goals as goal

pub Pattern::matches_path-returns-in-And : goal.Pattern::matches_path-returns-in-And
Pattern::matches_path-returns-in-And t c =
    c.all_match.ensures ∙ ap (list_all (λ p. matches p c.args.path.now (option_copied c.args.version))) c.as_slice-in-And.ensures
    ∙ sym (ap (λ p. matches p c.args.path.now (option_copied c.args.version)) c.in-And.is ∙ matches-and c.args.path.now (option_copied c.args.version) c.in-And.patterns)

pub Pattern::matches_path-returns-in-Or : goal.Pattern::matches_path-returns-in-Or
Pattern::matches_path-returns-in-Or t c =
    c.any_matches.ensures ∙ ap (list_any (λ p. matches p c.args.path.now (option_copied c.args.version))) c.as_slice-in-Or.ensures
    ∙ sym (ap (λ p. matches p c.args.path.now (option_copied c.args.version)) c.in-Or.is ∙ matches-or c.args.path.now (option_copied c.args.version) c.in-Or.patterns)
