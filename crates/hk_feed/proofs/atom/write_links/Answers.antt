use Rattle.hk_feed.proofs.Writing.{written-then}
use Rattle.hk_feed.proofs.atom.write_links.Goals as goal

pub returns : goal.returns
returns c =
    written-then _ _ _ _ _ c.in_ok-write_link.ensures c.in_ok-write_id.ensures
