use Rattle.std.proofs.Common.{◌≡◌, ◌++◌, drop}
use Rattle.hk_rules.specs.Plan.{lookups}
use Rattle.hk_texts.specs.TraceText.{trace_text}
use Rattle.hk_texts.proofs.trace.write_events.Given as goal

-- the text so far and that of the rest are all
abbrev pub invariant-loop-event : goal.invariant-loop-event
invariant-loop-event l = l.out.items ++ trace_text (lookups l.plan) (drop l.event-index l.history) ≡ l.fn.out.items ++ trace_text (lookups l.plan) l.history
