use Rattle.std.proofs.Common.{rules, append_assoc, append-nil}
use Rattle.hk_store.specs.Traits.{sha_digests}
use Rattle.hk_store.proofs.digests.traits_digest.Goals as goal

pub returns : goal.returns
unfolding sha_digests
returns c = search (rules, append_assoc, append-nil)
