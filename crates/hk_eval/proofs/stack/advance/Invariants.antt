-- The steps so far, under the told pages.
use Rattle.hk_rules.specs.Plan.{lookups}
use Rattle.hk_eval.specs.Going.{Goes}
use Rattle.hk_eval.specs.Rest.{rest}
use Rattle.hk_eval.specs.Told.{told_pages}
use Rattle.hk_eval.specs.Within.{AreFramesOf}
use Rattle.hk_eval.proofs.stack.advance.Given as goal

abbrev pub invariant-loop-turn : goal.invariant-loop-turn
invariant-loop-turn l =
    Goes (told_pages l.told) (rest (lookups l.plan) l.fn.frames.items l.fn.out.items) l.fn.notes (rest (lookups l.plan) l.frames.items l.out.items) l.notes × AreFramesOf l.plan l.frames.items
