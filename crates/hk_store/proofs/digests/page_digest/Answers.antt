use Rattle.std.proofs.Common.{rules, append_assoc}
use Rattle.hk_store.specs.Traits.{sha_digests}
use Rattle.hk_store.proofs.digests.page_digest.Goals as goal

pub returns : goal.returns
unfolding sha_digests
returns c = search (rules, append_assoc)
