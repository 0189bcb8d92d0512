use Rattle.std.proofs.Common.{◌∙◌, ap, cond, nat_lt, length}
use Rattle.hk_rules.specs.Universe.{claimed_all}
use Rattle.hk_rules.proofs.Claiming.{enough-turn}
use Rattle.hk_rules.proofs.universe.owners_of.Goals as goal

pub loop-rule-preserved : goal.loop-rule-preserved
loop-rule-preserved c =
    let es = c.loop-rule.owners.entries in
    record {
      owners = enough-turn c.args.sources.now es _ c.loop-rule.yielded c.in-Some.rule c.loop-rule.invariant.owners (c.in_ok-claim_next.ensures.owners ∙ ap (λ r. cond (nat_lt 65535 (length es)) es (claimed_all c.args.sources.now es r)) c.in_ok-rule.ensures);
      settled = c.in_ok-claim_next.ensures.settled;
    }
