use Rattle.std.proofs.Common.{ap, ◌∙◌, option_map, Some}
use Rattle.hk_meta.proofs.Entries.{value_of-entries}
use Rattle.hk_meta.specs.Metadata.{value_of}
use Rattle.hk_meta.proofs.metadata.Metadata.get.Goals as goal

pub returns-in-Some-clause-value : goal.returns-in-Some-clause-value
returns-in-Some-clause-value c =
    ap Some c.as_slice.ensures.value
    ∙ ap (option_map (λ v. v.items)) c.in-Some.ensures.value
    ∙ value_of-entries (λ k. k.items) (λ v. v.items) c.args.key.now c.self.inside.pairs.entries
    ∙ ap (value_of c.args.key.now) c.self.view_is

pub returns-in-None-clause-value : goal.returns-in-None-clause-value
returns-in-None-clause-value c =
    ap (option_map (λ v. v.items)) c.in-None.ensures.value
    ∙ value_of-entries (λ k. k.items) (λ v. v.items) c.args.key.now c.self.inside.pairs.entries
    ∙ ap (value_of c.args.key.now) c.self.view_is
