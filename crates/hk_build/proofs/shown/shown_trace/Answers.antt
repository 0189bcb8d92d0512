use Rattle.std.proofs.Common.{◌∙◌}
use Rattle.hk_build.proofs.Showing.{shown-in, traced}
use Rattle.hk_build.proofs.shown.shown_trace.Goals as goal

pub trace_text-requires : goal.trace_text-requires
trace_text-requires c = shown-in c.args.plan.now c.requires.0 c.args.build.now c.requires.1 c.deref.result.now (c.deref.ensures.value ∙ c.in_ok-events.ensures c.requires.0 c.requires.1)

pub returns : goal.returns
returns c = traced c.args.plan.now c.args.build.now c.in_ok-events.events.items c.in_ok-events.ensures c.deref.result.now c.deref.ensures.value c.trace_text.result c.trace_text.ensures
