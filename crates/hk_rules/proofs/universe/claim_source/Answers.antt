use Rattle.std.proofs.Common.{ap, ◌∙◌, Some}
use Rattle.hk_rules.specs.Universe.{claim_at, claimed}
use Rattle.hk_rules.proofs.Settling.{settled-source}
use Rattle.hk_rules.proofs.universe.claim_source.Goals as goal

pub returns-clause-settled : goal.returns-clause-settled
returns-clause-settled c = λ e.
    settled-source c.args.rule.now c.args.source.now c.args.owners.now.entries _ (c.in_ok-claim.ensures ∙ ap (λ path. claimed c.args.owners.now.entries (claim_at c.args.rule.now (Some c.args.source.now.1) path)) c.as_slice-path.ensures)
