use Rattle.hk_feed.proofs.Unescaping.{unescaped-xml}
use Rattle.hk_feed.proofs.laws.escaping_is_undone.Goals as goal

pub returns : goal.returns
returns c = unescaped-xml
