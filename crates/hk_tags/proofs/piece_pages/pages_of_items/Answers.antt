use Rattle.std.proofs.Common.{◌∙◌, arith}
use Rattle.hk_tags.proofs.Pieces.{page-turn, drop-turn, pages-all}
use Rattle.hk_tags.proofs.piece_pages.pages_of_items.Goals as goal

pub loop-place-preserved : goal.loop-place-preserved
loop-place-preserved c = record {
  made =
      page-turn c.args.table.now c.args.items.now c.loop-place.place c.loop-place.pages.items _ _ _ _ c.loop-place.rest.now
      c.count_of_pieces-count.ensures c.loop-place.invariant.left (c.in_ok-members.ensures ∙ c.front.ensures) c.in_ok-piece_page.ensures c.loop-place.invariant.made c.in_ok-push.ensures.items;
  left = drop-turn c.args.table.now.per c.args.items.now c.loop-place.rest.now _ c.loop-place.place c.loop-place.invariant.left c.behind-rest.ensures;
}

pub returns : goal.returns
returns c = pages-all c.args.table.now c.args.items.now c.loop-place.place _ c.loop-place.pages.items c.count_of_pieces-count.ensures (omega (arith, c.loop-place-test.false, c.loop-place.auto.place-end)) c.loop-place.invariant.made
