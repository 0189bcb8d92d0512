-- What is left of a chain.
use Rattle.std.specs.Prelude.{ℕ, Option, Some, None, drop}
use Rattle.hk_chain.specs.declared.page.Page.{Page}
use Rattle.hk_fix.specs.Task.{Task, ◌▷◌}
use Rattle.hk_rules.specs.Plan.{Lookups}
use Rattle.hk_rules.specs.PlanView.{PlanView}
use Rattle.hk_eval.specs.Left.{left_of, IsStackOf}
use Rattle.hk_eval.specs.declared.stack.Stack.{Stack}
use Rattle.hk_machine.specs.Applying.{page_with}
use Rattle.hk_machine.specs.Chain.{steps_task}
use Rattle.hk_machine.specs.declared.work.Work.{Work}

-- the steps of an item's chain from a place on, with the current page
abbrev pub left_at : Lookups → ℕ → ℕ → Page → Task Page
left_at plan item at = steps_task plan item (drop at (plan.chain item))

-- the rest of the rendering that is under way, if one is, and then these steps with its page
abbrev pub left_by : Lookups → ℕ → ℕ → Page → Option Stack → Task Page
left_by plan item at page None = left_at plan item at page
left_by plan item at page (Some stack) = (left_of plan stack ▷ page_with) ▷ left_at plan item at

abbrev pub left : Lookups → ℕ → Work → Task Page
left plan item work = left_by plan item work.at work.page work.rendering

-- the places, lists and templates of the rendering that is under way are the plan's
abbrev pub IsRenderingOf : PlanView → Option Stack → Type 0
IsRenderingOf plan None = Unit {0}
IsRenderingOf plan (Some stack) = IsStackOf plan stack

abbrev pub IsWorkOf : PlanView → Work → Type 0
IsWorkOf plan work = IsRenderingOf plan work.rendering
