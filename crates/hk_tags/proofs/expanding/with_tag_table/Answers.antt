use Rattle.std.proofs.Common.{sym, subst, length}
use Rattle.hk_rules.specs.Plan.{lookups}
use Rattle.hk_tags.specs.Listings.{ArePagesWithin}
use Rattle.hk_tags.proofs.Tagging.{tag_pages-within}
use Rattle.hk_tags.proofs.expanding.with_tag_table.Goals as goal

pub with_pages-requires-clause-within : goal.with_pages-requires-clause-within
unfolding lookups
with_pages-requires-clause-within c = subst (ArePagesWithin (length c.args.base.now.items)) (sym c.in_ok-pages.ensures) (tag_pages-within (lookups c.args.base.now) c.args.table.now)
