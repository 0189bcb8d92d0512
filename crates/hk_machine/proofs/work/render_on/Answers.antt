use Rattle.std.proofs.Common.{◌≡◌, refl, sym, ap, ◌∙◌, subst}
use Rattle.hk_fix.specs.Pages.{Pages}
use Rattle.hk_fix.specs.Task.{◌▷◌}
use Rattle.hk_rules.specs.Plan.{Lookups, lookups}
use Rattle.hk_eval.specs.Going.{Stops}
use Rattle.hk_eval.specs.Left.{left_of}
use Rattle.hk_eval.specs.Told.{told_pages}
use Rattle.hk_eval.specs.declared.moves.Stop.{Stop}
use Rattle.hk_machine.specs.Applying.{page_with}
use Rattle.hk_machine.specs.Working.{left, left_at, left_by}
use Rattle.hk_machine.proofs.Turning.{render-asks, render-text, render-fails}
use Rattle.hk_machine.proofs.work.render_on.Goals as goal

pub returns-in-Asks-clause-turns : goal.returns-in-Asks-clause-turns
returns-in-Asks-clause-turns c =
    let plan : Lookups = lookups c.args.plan.now in
    let k : Pages = told_pages c.args.told.now in
    let work = c.args.work.now in
    let rest = left_at plan c.args.item work.at in
    let is : left plan c.args.item work ≡ (left_of plan c.in-Some.stack ▷ page_with) ▷ rest = ap (left_by plan c.args.item work.at work.page) (sym c.in-Some.ensures.value) in
    let s = subst (λ (v : Stop). Stops k (left_of plan c.in-Some.stack) work.notes v (left_of plan c.advance.new.self) c.advance.new.notes) c.in-Asks.is c.in_ok-pairs.ensures.stops in
    render-asks plan k c.in-Some.stack rest (left plan c.args.item work) is work.notes c.advance.new.notes c.advance.new.self _ c.in-Asks.pairs.items refl s.0 s.1

pub returns-in_ok-work-in-Text-clause-turns : goal.returns-in_ok-work-in-Text-clause-turns
returns-in_ok-work-in-Text-clause-turns c =
    let plan : Lookups = lookups c.args.plan.now in
    let k : Pages = told_pages c.args.told.now in
    let work = c.args.work.now in
    let rest = left_at plan c.args.item work.at in
    let is : left plan c.args.item work ≡ (left_of plan c.in-Some.stack ▷ page_with) ▷ rest = ap (left_by plan c.args.item work.at work.page) (sym c.in-Some.ensures.value) in
    let s = subst (λ (v : Stop). Stops k (left_of plan c.in-Some.stack) work.notes v (left_of plan c.advance.new.self) c.advance.new.notes) c.in-Text.is c.in_ok-pairs.ensures.stops in
    let next : left_by plan c.args.item work.at c.in_ok-work-in-Text.field-0 c.take.new.self ≡ rest _ = ap (left_by plan c.args.item work.at c.in_ok-work-in-Text.field-0) c.in-Some.ensures.after ∙ ap rest c.in_ok-work-in-Text.ensures in
    render-text plan k c.in-Some.stack rest (left plan c.args.item work) is work.notes c.advance.new.notes c.in-Text.text _ next s

pub returns-in-Fails-clause-turns : goal.returns-in-Fails-clause-turns
returns-in-Fails-clause-turns c =
    let plan : Lookups = lookups c.args.plan.now in
    let k : Pages = told_pages c.args.told.now in
    let work = c.args.work.now in
    let rest = left_at plan c.args.item work.at in
    let is : left plan c.args.item work ≡ (left_of plan c.in-Some.stack ▷ page_with) ▷ rest = ap (left_by plan c.args.item work.at work.page) (sym c.in-Some.ensures.value) in
    let s = subst (λ (v : Stop). Stops k (left_of plan c.in-Some.stack) work.notes v (left_of plan c.advance.new.self) c.advance.new.notes) c.in-Fails.is c.in_ok-pairs.ensures.stops in
    render-fails plan k c.in-Some.stack rest (left plan c.args.item work) is work.notes c.advance.new.notes c.in-Fails.fault s
