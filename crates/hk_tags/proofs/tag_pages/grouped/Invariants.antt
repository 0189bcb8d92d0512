use Rattle.std.proofs.Common.{◌≡◌, [], take}
use Rattle.std.specs.Prelude.{fold}
use Rattle.hk_rules.specs.Plan.{lookups}
use Rattle.hk_tags.specs.Pages.{with_tags_of}
use Rattle.hk_tags.proofs.tag_pages.grouped.Given as goal

abbrev pub invariant-loop-item : goal.invariant-loop-item
invariant-loop-item l = l.groups.entries ≡ fold (with_tags_of (lookups l.plan) l.field) [] (take l.item-index l.items)
