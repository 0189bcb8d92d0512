use Rattle.hk_rules.specs.Universe.{claimed}
use Rattle.hk_rules.specs.Settled.{has_path, matched_by}
use Rattle.hk_rules.proofs.Settling.{fold-turn, settle-turn}
use Rattle.hk_rules.proofs.universe.claim_open.Goals as goal

pub loop-index-preserved : goal.loop-index-preserved
loop-index-preserved c =
    let source = c.index-sources-index.result in
    record {
      owners = fold-turn (λ items source. claimed items (matched_by (has_path c.args.paths.now) c.args.rule.now source)) c.args.owners.now.entries c.args.sources.now c.loop-index.index source c.loop-index.owners.entries c.claim_source.new.owners.entries c.loop-index-test.true c.index-sources-index.is c.loop-index.invariant.owners c.in_ok-flag.ensures.owners;
      settled = settle-turn c.args.sources.now c.loop-index.owners.entries c.claim_source.new.owners.entries c.args.rule.now.version c.loop-index.flags.items c.loop-index.index source _ c.in_ok-flag.flag c.loop-index-test.true c.index-sources-index.is c.loop-index.invariant.settled c.in_ok-flag.ensures.owners c.in_ok-flag.ensures.settled;
    }
