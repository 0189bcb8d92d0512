use Rattle.std.proofs.Common.{◌≡◌, ◌++◌, map}
use Rattle.hk_tags.specs.Pages.{group_page}
use Rattle.hk_tags.proofs.tag_pages.pages_of.Given as goal

abbrev pub invariant-loop-tag : goal.invariant-loop-tag
invariant-loop-tag l = l.pages.items ++ map (group_page l.table) l.tag-iterator ≡ map (group_page l.table) l.fn.groups.entries
