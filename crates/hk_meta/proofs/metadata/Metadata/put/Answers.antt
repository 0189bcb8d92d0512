use Rattle.std.proofs.Common.{ap, ◌∙◌, map}
use Rattle.hk_meta.proofs.Entries.{put-entries, pair_of}
use Rattle.hk_meta.proofs.KeysDiffer.{keys_differ-put}
use Rattle.hk_meta.specs.Metadata.{put, keys_differ}
use Rattle.hk_meta.proofs.metadata.Metadata.put.Goals as goal

pub returns : goal.returns
returns c =
    ap (map (pair_of (λ k. k.items) (λ v. v.items))) c.in_ok-insert.ensures.entries
    ∙ put-entries (λ k. k.items) (λ v. v.items) c.args.key c.args.value c.self.inside.pairs.entries
    ∙ ap (put c.args.key.items c.args.value.items) c.self.view_is

pub invariant_of-self-2 : goal.invariant_of-self-2
invariant_of-self-2 c =
    let old = c.self.inside.pairs.entries in
    ap (λ es. keys_differ (map (pair_of (λ k. k.items) (λ v. v.items)) es)) c.in_ok-insert.ensures.entries
    ∙ ap keys_differ (put-entries (λ k. k.items) (λ v. v.items) c.args.key c.args.value old)
    ∙ keys_differ-put c.args.key.items c.args.value.items (map (pair_of (λ k. k.items) (λ v. v.items)) old) c.self.invariant
