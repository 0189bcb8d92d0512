use Rattle.hk_feed.specs.FeedText.{text_of}
use Rattle.hk_feed.proofs.Writing.{written-then}
use Rattle.hk_feed.proofs.texts.write_feed.Goals as goal

pub returns : goal.returns
unfolding text_of
returns c =
    written-then _ _ _ _ _ c.in_ok-begin_document.ensures c.in_ok-write_kind.ensures
