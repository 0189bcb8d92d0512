use Rattle.std.proofs.Common.{ap, ◌∙◌, sym, append-nil, ◌++◌, map}
use Rattle.hk_build.specs.Pages.{placed_out}
use Rattle.hk_build.proofs.pages.in_order.Goals as goal

pub returns : goal.returns
returns c =
    sym (append-nil (map placed_out c.loop-target.ordered.items)) ∙ ap (λ l. map placed_out c.loop-target.ordered.items ++ l) (sym c.in-None.ensures.steps.0) ∙ c.loop-target.invariant
