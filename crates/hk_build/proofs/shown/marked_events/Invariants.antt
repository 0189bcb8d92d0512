use Rattle.std.proofs.Common.{◌≡◌, ◌++◌, drop}
use Rattle.hk_build.specs.Shown.{marked_events}
use Rattle.hk_build.proofs.shown.marked_events.Given as goal

-- the events so far and those of the rest are all
abbrev pub invariant-loop-event : goal.invariant-loop-event
invariant-loop-event l = l.events.items ++ marked_events l.layout l.marks (drop l.event-index l.history) ≡ marked_events l.layout l.marks l.history
