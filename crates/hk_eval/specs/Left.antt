-- What a rendering under way has left to do.
use Rattle.hk_base.specs.Bytes.{Bytes}
use Rattle.hk_fix.specs.Task.{Task}
use Rattle.hk_rules.specs.Plan.{Lookups}
use Rattle.hk_rules.specs.PlanView.{PlanView}
use Rattle.hk_eval.specs.Rest.{rest}
use Rattle.hk_eval.specs.Within.{AreFramesOf}
use Rattle.hk_eval.specs.declared.stack.Stack.{Stack}

-- the whole text: the text so far, with what the frames add
abbrev pub left_of : Lookups → Stack → Task Bytes
left_of plan s = rest plan s.frames.items s.out.items

-- its places, lists and templates are the plan's
abbrev pub IsStackOf : PlanView → Stack → Type 0
IsStackOf plan s = AreFramesOf plan s.frames.items
