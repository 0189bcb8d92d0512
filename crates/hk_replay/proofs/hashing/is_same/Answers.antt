use Rattle.std.proofs.Common.{◌≡◌, ◌∙◌, rules}
use Rattle.std.specs.Prelude.{bytes_eq}
use Rattle.hk_replay.proofs.SamePages.{page-same}
use Rattle.hk_replay.proofs.hashing.is_same.Goals as goal

pub returns : goal.returns
returns c =
    let kind : c.args.one.now.kind ≡ c.args.other.now.kind = search rules in
    page-same c.eq.result c.args.one.now c.args.other.now kind (c.eq.ensures ∙ (λ i. bytes_eq (c.as_slice.ensures i) (c.as_slice-2.ensures i)))
