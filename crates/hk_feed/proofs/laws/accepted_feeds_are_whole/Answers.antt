use Rattle.hk_feed.proofs.Accepting.{all-accepted}
use Rattle.hk_feed.proofs.laws.accepted_feeds_are_whole.Goals as goal

pub returns : goal.returns
returns c = all-accepted
