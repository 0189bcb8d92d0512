-- Each step keeps what the steps before it have come to.
use Rattle.std.proofs.Common.{◌≡◌, refl, sym, ap, ◌∙◌, subst}
use Rattle.hk_fix.specs.Task.{gives}
use Rattle.hk_rules.specs.Plan.{lookups}
use Rattle.hk_eval.specs.Rest.{rest}
use Rattle.hk_eval.specs.Told.{told_pages}
use Rattle.hk_eval.specs.declared.moves.Stop.TheVariants as stops
use Rattle.hk_eval.proofs.Advancing.{goes-none, then-goes, then-asks, then-text, then-stops}
use Rattle.hk_eval.proofs.stack.advance.Goals as goal

pub loop-turn-init : goal.loop-turn-init
loop-turn-init c = (goes-none (told_pages c.args.told.now) (rest (lookups c.args.plan.now) c.args.frames.now.items c.args.out.now.items) (rest (lookups c.args.plan.now) c.args.frames.now.items c.args.out.now.items) c.args.notes.now refl, c.requires.frames)

pub step-requires-clause-frames : goal.step-requires-clause-frames
step-requires-clause-frames c = c.loop-turn.invariant.1

pub loop-turn-preserved : goal.loop-turn-preserved
loop-turn-preserved c =
    let p = lookups c.args.plan.now in
    (then-goes (told_pages c.args.told.now) (rest p c.args.frames.now.items c.args.out.now.items) (rest p c.loop-turn.frames.items c.loop-turn.out.items) (rest p c.step.new.frames.items c.step.new.out.items) c.args.notes.now c.loop-turn.notes c.step.new.notes c.loop-turn.invariant.0 c.step.new.out.items c.in_ok-step.field-0 c.in_ok-step.ensures.steps c.in-Goes.is, c.in_ok-step.ensures.within)

pub returns-in-Asks-clause-stops : goal.returns-in-Asks-clause-stops
returns-in-Asks-clause-stops c =
    let p = lookups c.args.plan.now in
    then-asks (told_pages c.args.told.now) (rest p c.args.frames.now.items c.args.out.now.items) (rest p c.loop-turn.frames.items c.loop-turn.out.items) (rest p c.step.new.frames.items c.step.new.out.items) c.args.notes.now c.loop-turn.notes c.step.new.notes c.loop-turn.invariant.0 c.step.new.out.items c.in_ok-step.field-0 c.in_ok-step.ensures.steps (stops.Asks c.in-Asks.pairs) c.in-Asks.pairs c.in-Asks.is refl

pub returns-in-Done-clause-stops : goal.returns-in-Done-clause-stops
returns-in-Done-clause-stops c =
    let p = lookups c.args.plan.now in
    then-text (told_pages c.args.told.now) (rest p c.args.frames.now.items c.args.out.now.items) (rest p c.loop-turn.frames.items c.loop-turn.out.items) (rest p c.step.new.frames.items c.step.new.out.items) c.args.notes.now c.loop-turn.notes c.step.new.notes c.loop-turn.invariant.0 c.step.new.out.items c.in_ok-step.field-0 c.in_ok-step.ensures.steps (stops.Text c.from_vec.result) c.from_vec.result (gives c.from_vec.result) c.in-Done.is refl (c.from_vec.ensures ∙ ap (λ v. v.items) c.replace-text.ensures.value)

pub returns-in-Fails-clause-stops : goal.returns-in-Fails-clause-stops
returns-in-Fails-clause-stops c =
    let p = lookups c.args.plan.now in
    then-stops (told_pages c.args.told.now) (rest p c.args.frames.now.items c.args.out.now.items) (rest p c.loop-turn.frames.items c.loop-turn.out.items) (rest p c.step.new.frames.items c.step.new.out.items) c.args.notes.now c.loop-turn.notes c.step.new.notes c.loop-turn.invariant.0 c.step.new.out.items c.in_ok-step.field-0 c.in_ok-step.ensures.steps (stops.Fails c.in-Fails.fault) c.in-Fails.fault (rest p c.step.new.frames.items c.step.new.out.items) c.in-Fails.is refl
