use Rattle.std.proofs.Common.{◌≡◌}
use Rattle.std.specs.Prelude.{fold}
use Rattle.std.specs.Vec.Iter.{into_iter_items}
use Rattle.hk_tags.specs.Pages.{with_tag}
use Rattle.hk_tags.proofs.tag_pages.add_tags.Given as goal

abbrev pub invariant-loop-tag : goal.invariant-loop-tag
invariant-loop-tag l = fold (with_tag l.item) l.groups.entries (into_iter_items l.tag-iterator) ≡ fold (with_tag l.item) l.initial.groups.entries l.fn.tags.items
