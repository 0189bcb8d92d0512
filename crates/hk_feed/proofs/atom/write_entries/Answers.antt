use Rattle.hk_rules.specs.Plan.{lookups}
use Rattle.hk_feed.specs.FeedText.{atom_entry}
use Rattle.hk_feed.proofs.Writing.{written-turn}
use Rattle.hk_feed.proofs.atom.write_entries.Goals as goal

pub loop-entry-preserved : goal.loop-entry-preserved
loop-entry-preserved c =
    written-turn (atom_entry (lookups c.args.plan.now) c.args.feed.now.root) c.args.entries.now c.loop-entry.entry-index c.entry-item.result _ _ _
    c.loop-entry-test.true c.entry-item.is c.in_ok-write_entry.ensures c.loop-entry.invariant
