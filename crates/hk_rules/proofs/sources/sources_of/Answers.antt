use Rattle.std.proofs.Common.{◌∙◌}
use Rattle.std.specs.Ordering.{nat_cmp}
use Rattle.std.specs.Cmp.Lexicographic.{slice_cmp}
use Rattle.std.specs.BTreeMap.{get}
use Rattle.std.proofs.lemmas.Result.{IfOk-weaker}
use Rattle.hk_rules.proofs.Companions.{sources-whole}
use Rattle.hk_rules.proofs.sources.sources_of.Goals as goal

pub returns : goal.returns
returns c =
    let parts = c.in_ok-others.field-0 in
    let whole = sources-whole parts.others.items (get (slice_cmp nat_cmp) parts.companions) c.args.files.items c.in_ok-others.ensures.others c.in_ok-others.ensures.companions in
    IfOk-weaker c.sources_by.result _ _ (λ v e. e ∙ whole) c.sources_by.ensures
