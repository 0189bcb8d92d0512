use Rattle.std.proofs.Common.{sym, ap, ◌∙◌}
use Rattle.hk_store.specs.Traits.{sha_digests}
use Rattle.hk_replay.proofs.hashing.HashedPage.of.Goals as goal

pub invariant_of-result : goal.invariant_of-result
invariant_of-result c = record { same = c.in_ok-digest.ensures ∙ ap sha_digests.page (c.get.ensures ∙ sym c.in_ok-page.ensures) }
