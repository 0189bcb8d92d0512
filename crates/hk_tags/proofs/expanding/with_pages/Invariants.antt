use Rattle.std.proofs.Common.{◌≡◌, ◌<◌, ◌≤◌, length}
use Rattle.std.specs.Vec.Iter.{into_iter_items}
use Rattle.hk_rules.specs.Plan.{lookups}
use Rattle.hk_tags.specs.Expanding.{with_one}
use Rattle.hk_tags.specs.Listings.{ArePagesWithin}
use Rattle.hk_tags.specs.Made.{making_of}
use Rattle.hk_tags.specs.Turns.{in_turn}
use Rattle.hk_tags.proofs.expanding.with_pages.Given as goal

abbrev pub invariant-loop-page : goal.invariant-loop-page
invariant-loop-page l = record {
  value : in_turn (with_one (lookups l.fn.base) (making_of l.fn.making)) l.fn.pages.items l.fn.grown ≡ in_turn (with_one (lookups l.fn.base) (making_of l.fn.making)) (into_iter_items l.page-iterator) l.grown;
  context : l.fn.making.context < length l.grown.growing.contexts;
  more : length l.fn.grown.growing.contexts ≤ length l.grown.growing.contexts;
  within : ArePagesWithin (length l.fn.base.items) (into_iter_items l.page-iterator);
}
