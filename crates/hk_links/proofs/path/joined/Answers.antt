use Rattle.std.proofs.Common.{◌++◌, ◌∙◌, ap}
use Rattle.hk_links.specs.Parts.{joined_text}
use Rattle.hk_links.proofs.PartLemmas.{joined_whole}
use Rattle.hk_links.proofs.path.joined.Goals as goal

pub returns : goal.returns
returns c =
    c.from_vec.ensures ∙ c.in_ok-push_joined.ensures ∙ ap (λ text. text ++ joined_text c.args.parts.now) c.new-text.ensures.items ∙ joined_whole c.args.parts.now
