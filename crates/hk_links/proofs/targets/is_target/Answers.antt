use Rattle.std.proofs.Common.{rules, ◌∙◌}
use Rattle.std.specs.Ordering.{nat_cmp}
use Rattle.std.specs.Cmp.Lexicographic.{slice_cmp}
use Rattle.std.proofs.lemmas.Fn.{always_returns_same}
use Rattle.hk_links.proofs.SearchLemmas.{searched}
use Rattle.hk_links.proofs.targets.is_target.Goals as goal

pub returns : goal.returns
returns c =
    let facts = c.binary_search_by.ensures in
    let by_target = facts.position (λ target. slice_cmp nat_cmp target c.args.path.now) (always_returns_same _ _ _ (λ a r g called. search rules)) in
    c.is_ok.ensures.value ∙ searched c.args.targets.now c.args.path.now c.binary_search_by.result facts.bound by_target c.requires
