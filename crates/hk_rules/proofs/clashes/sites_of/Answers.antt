use Rattle.hk_rules.proofs.Clashing.{sites-turn, sites-end}
use Rattle.hk_rules.proofs.clashes.sites_of.Goals as goal

pub loop-index-preserved : goal.loop-index-preserved
loop-index-preserved c = sites-turn c.args.items.now c.args.targets.now c.loop-index.index c.index-items-index.result c.index-targets-index.result _ _ c.requires c.loop-index-test.true c.index-items-index.is c.index-targets-index.is c.loop-index.invariant c.in_ok-add_site.ensures

pub returns : goal.returns
returns c = sites-end c.args.items.now c.args.targets.now c.loop-index.index c.loop-index.sites.items c.requires c.loop-index-test.false c.loop-index.invariant
