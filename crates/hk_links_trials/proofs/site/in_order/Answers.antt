use Rattle.std.proofs.Common.{◌≡◌, ◌++◌, ◌∙◌, ap, sym, append-nil, map}
use Rattle.hk_base.specs.Bytes.{Bytes, ascends}
use Rattle.hk_base.proofs.Ascending.{ascends-sorted}
use Rattle.hk_chain.specs.declared.page.Page.{Page}
use Rattle.hk_links_trials.proofs.site.in_order.Goals as goal

pub returns-clause-ascending : goal.returns-clause-ascending
returns-clause-ascending c =
    ap ascends (sym (append-nil c.loop-target.targets.items)
    ∙ ap (λ l. c.loop-target.targets.items ++ map (λ (e : Bytes × Page). e.0) l) (sym c.in-None.ensures.steps.0)
    ∙ c.loop-target.invariant.ordered) ∙ ascends-sorted (map (λ (e : Bytes × Page). e.0) c.args.by_target.entries) c.len.ensures.ordered
