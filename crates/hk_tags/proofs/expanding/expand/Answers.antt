use Rattle.hk_rules.specs.Plan.{lookups}
use Rattle.hk_tags.proofs.Cutting.{all-by-piece}
use Rattle.hk_tags.proofs.Expansion.{linked-result, ordered-result}
use Rattle.hk_tags.proofs.Tagging.{all-by-tag}
use Rattle.hk_tags.proofs.expanding.expand.Goals as goal

pub returns-clause-tags : goal.returns-clause-tags
returns-clause-tags c = all-by-tag (lookups c.args.base.now) c.args.rules.now.tags

pub returns-clause-pieces : goal.returns-clause-pieces
returns-clause-pieces c = all-by-piece _ _ (lookups c.args.base.now) c.args.rules.now.pages c.requires.tables.pages

pub returns-clause-linked : goal.returns-clause-linked
returns-clause-linked c = linked-result c.args.rules.now c.args.base.now c.expanded.result c.requires.linked c.requires.tables c.expanded.ensures

pub returns-clause-names : goal.returns-clause-names
returns-clause-names c = ordered-result c.args.rules.now c.args.base.now c.expanded.result c.requires.linked c.requires.tables c.expanded.ensures
