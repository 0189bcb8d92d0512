-- A poll answers as the run ends.
use Rattle.std.proofs.Common.{◌≡◌}
use Rattle.hk_eval.proofs.Ending.{ask-untold, ask-distinct, ask-went, text-went}
use Rattle.hk_eval.proofs.course.go.Goals as goal

pub wait-requires-clause-untold : goal.wait-requires-clause-untold
wait-requires-clause-untold c = ask-untold c.args.plan.now c.args.course.now c.requires.keeps c.requires.closed c.advance.new.self c.advance.new.notes c.in_ok-pairs.ensures.within c.in-Asks.pairs c.in_ok-pairs.field-0 c.in-Asks.is c.in_ok-pairs.ensures.stops

pub wait-requires-clause-distinct : goal.wait-requires-clause-distinct
wait-requires-clause-distinct c = ask-distinct c.args.plan.now c.args.course.now c.requires.keeps c.requires.closed c.advance.new.self c.advance.new.notes c.in_ok-pairs.ensures.within c.in-Asks.pairs c.in_ok-pairs.field-0 c.in-Asks.is c.in_ok-pairs.ensures.stops

pub returns-in_ok-step-in-Asks-clause-went : goal.returns-in_ok-step-in-Asks-clause-went
returns-in_ok-step-in-Asks-clause-went c =
    ask-went c.args.plan.now c.args.course.now c.requires.keeps c.requires.closed c.advance.new.self c.advance.new.notes c.in_ok-pairs.ensures.within c.in-Asks.pairs c.in_ok-pairs.field-0 c.in-Asks.is c.in_ok-pairs.ensures.stops
    c.wait.new.course.told c.wait.ensures.pages c.in_ok-step-in-Asks.ensures.listed c.wait.new.course c.in_ok-step-in-Asks.ensures.gone c.in_ok-step-in-Asks.step c.in_ok-step-in-Asks.ensures.step

pub returns-in_ok-step-in-Text-clause-went : goal.returns-in_ok-step-in-Text-clause-went
returns-in_ok-step-in-Text-clause-went c =
    text-went c.args.plan.now c.args.course.now c.requires.keeps c.requires.closed c.advance.new.self c.advance.new.notes c.in_ok-pairs.ensures.within c.in-Text.text c.in_ok-pairs.field-0 c.in-Text.is c.in_ok-pairs.ensures.stops
    c.finish.new.course c.finish.new.course.notes c.in_ok-step-in-Text.ensures.gone c.in_ok-step-in-Text.step c.in_ok-step-in-Text.ensures.step
