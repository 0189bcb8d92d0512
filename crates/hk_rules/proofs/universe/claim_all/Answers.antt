use Rattle.hk_rules.specs.Universe.{created}
use Rattle.hk_rules.proofs.Settling.{settled-grown}
use Rattle.hk_rules.proofs.universe.claim_all.Goals as goal

pub returns-in_ok-claim_created-in-Create-clause-settled : goal.returns-in_ok-claim_created-in-Create-clause-settled
returns-in_ok-claim_created-in-Create-clause-settled c =
    settled-grown (created c.args.rule.now) c.args.sources.now c.args.owners.now.entries c.claim_created.new.owners.entries c.args.settled.now c.as_slice.result.now c.requires c.in_ok-claim_created-in-Create.ensures
