use Rattle.std.proofs.Common.{◌≡◌, ◌≤◌, ◌-◌, length, None}
use Rattle.hk_rules.specs.Plan.{lookups}
use Rattle.hk_eval.specs.Leading.{Went}
use Rattle.hk_eval.specs.Told.{told_pages}
use Rattle.hk_machine.specs.Working.{left}
use Rattle.hk_machine.proofs.work.work_on.Given as goal

abbrev pub invariant-loop-work : goal.invariant-loop-work
invariant-loop-work l =
    Went (told_pages l.told) (left (lookups l.plan) l.item l.initial.work) l.initial.work.notes (left (lookups l.plan) l.item l.work) l.work.notes
    × (l.initial.work.at ≤ l.work.at) × (l.work.rendering ≡ None)

abbrev pub decreases-loop-work : goal.decreases-loop-work
decreases-loop-work l = length l.steps - l.work.at
