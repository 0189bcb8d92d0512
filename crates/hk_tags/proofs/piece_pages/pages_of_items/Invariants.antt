use Rattle.std.proofs.Common.{◌≡◌, ◌*◌, map, drop}
use Rattle.std.specs.List.{range_with_len}
use Rattle.hk_tags.specs.Pages.{page_at}
use Rattle.hk_tags.proofs.piece_pages.pages_of_items.Given as goal

abbrev pub invariant-loop-place : goal.invariant-loop-place
invariant-loop-place l = record {
  made : l.pages.items ≡ map (page_at l.table l.items) (range_with_len 0 l.place);
  left : l.rest ≡ drop (l.place * l.table.per) l.items;
}
