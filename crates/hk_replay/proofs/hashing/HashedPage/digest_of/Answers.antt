use Rattle.std.proofs.Common.{◌≡◌, sym, ap, ◌∙◌, rules}
use Rattle.hk_store.specs.Traits.{sha_digests}
use Rattle.hk_replay.proofs.hashing.HashedPage.digest_of.Goals as goal

pub returns-then-is_same : goal.returns-then-is_same
returns-then-is_same c =
    let same : c.get.result.now ≡ c.args.page.now = search rules in
    c.args.self.now.same ∙ ap sha_digests.page (sym c.get.ensures ∙ same)
