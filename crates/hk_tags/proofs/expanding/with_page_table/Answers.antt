use Rattle.hk_rules.specs.Plan.{lookups}
use Rattle.hk_tags.proofs.OrderedWithin.{piece_pages-within}
use Rattle.hk_tags.proofs.expanding.with_page_table.Goals as goal

pub with_pages-requires-clause-within : goal.with_pages-requires-clause-within
unfolding lookups
with_pages-requires-clause-within c = piece_pages-within (lookups c.args.base.now) c.args.table.now c.in_ok-pages.pages.items c.in_ok-pages.ensures
