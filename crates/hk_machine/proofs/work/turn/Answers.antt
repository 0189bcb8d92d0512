use Rattle.std.proofs.Common.{◌≡◌, ap, subst, ◌+◌}
use Rattle.hk_chain.specs.declared.page.Page.{Page}
use Rattle.hk_fix.specs.Pages.{Pages}
use Rattle.hk_fix.specs.Task.{Task, ◌▷◌}
use Rattle.hk_rules.specs.Plan.{Lookups, lookups}
use Rattle.hk_eval.specs.Left.{left_of}
use Rattle.hk_eval.specs.Told.{told_pages}
use Rattle.hk_machine.specs.Acting.{Acts}
use Rattle.hk_machine.specs.Applying.{page_with}
use Rattle.hk_machine.specs.Chain.{step_task}
use Rattle.hk_machine.specs.Working.{left, left_at, left_by}
use Rattle.hk_machine.specs.declared.act.Act.{Act}
use Rattle.hk_machine.proofs.Stopping.{next-step}
use Rattle.hk_machine.proofs.Turning.{turn-gives, turn-asks, turn-fails, turn-renders, went-turns}
use Rattle.hk_machine.proofs.work.turn.Goals as goal

pub returns-in-Gives-clause-turns : goal.returns-in-Gives-clause-turns
returns-in-Gives-clause-turns c =
    let plan : Lookups = lookups c.args.plan.now in
    let k : Pages = told_pages c.args.told.now in
    let work = c.args.work.now in
    let t : Task Page = step_task plan c.args.item c.args.step.now work.page in
    let rest = left_at plan c.args.item (work.at + 1) in
    let is : left plan c.args.item work ≡ t ▷ rest = next-step plan c.args.item work c.requires.idle c.args.step.now c.requires.next in
    let acts = subst (λ (a : Act). Acts plan k t work.page work.notes a c.act.new.notes) c.in-Gives.is c.in_ok-page.ensures.acts in
    let next : left_by plan c.args.item (work.at + 1) c.in-Gives.page work.rendering ≡ rest c.in-Gives.page = ap (left_by plan c.args.item (work.at + 1) c.in-Gives.page) c.requires.idle in
    turn-gives k t rest (left plan c.args.item work) is work.notes c.act.new.notes work.page c.in-Gives.page _ next acts

pub returns-in_ok-stop-in-Renders-clause-turns : goal.returns-in_ok-stop-in-Renders-clause-turns
returns-in_ok-stop-in-Renders-clause-turns c =
    let plan : Lookups = lookups c.args.plan.now in
    let k : Pages = told_pages c.args.told.now in
    let work = c.args.work.now in
    let t : Task Page = step_task plan c.args.item c.args.step.now work.page in
    let rest = left_at plan c.args.item (work.at + 1) in
    let is : left plan c.args.item work ≡ t ▷ rest = next-step plan c.args.item work c.requires.idle c.args.step.now c.requires.next in
    let acts = subst (λ (a : Act). Acts plan k t work.page work.notes a c.act.new.notes) c.in-Renders.is c.in_ok-page.ensures.acts in
    let begun = turn-renders k t rest (left plan c.args.item work) is work.notes c.act.new.notes work.page (left_of plan c.in-Renders.stack ▷ page_with) acts in
    went-turns k (left plan c.args.item work) ((left_of plan c.in-Renders.stack ▷ page_with) ▷ rest) (left plan c.args.item c.render_on.new.work) work.notes c.act.new.notes c.render_on.new.work.notes c.render_on.new.work.page begun c.in_ok-stop-in-Renders.stop c.in_ok-stop-in-Renders.ensures.turns

pub returns-in-Asks-clause-turns : goal.returns-in-Asks-clause-turns
returns-in-Asks-clause-turns c =
    let plan : Lookups = lookups c.args.plan.now in
    let k : Pages = told_pages c.args.told.now in
    let work = c.args.work.now in
    let t : Task Page = step_task plan c.args.item c.args.step.now work.page in
    let rest = left_at plan c.args.item (work.at + 1) in
    let is : left plan c.args.item work ≡ t ▷ rest = next-step plan c.args.item work c.requires.idle c.args.step.now c.requires.next in
    let acts = subst (λ (a : Act). Acts plan k t work.page work.notes a c.act.new.notes) c.in-Asks.is c.in_ok-page.ensures.acts in
    turn-asks k t rest (left plan c.args.item work) is work.notes c.act.new.notes work.page c.in-Asks.pairs.items acts.0 acts.1 acts.2

pub returns-in-Fails-clause-turns : goal.returns-in-Fails-clause-turns
returns-in-Fails-clause-turns c =
    let plan : Lookups = lookups c.args.plan.now in
    let k : Pages = told_pages c.args.told.now in
    let work = c.args.work.now in
    let t : Task Page = step_task plan c.args.item c.args.step.now work.page in
    let rest = left_at plan c.args.item (work.at + 1) in
    let is : left plan c.args.item work ≡ t ▷ rest = next-step plan c.args.item work c.requires.idle c.args.step.now c.requires.next in
    let acts = subst (λ (a : Act). Acts plan k t work.page work.notes a c.act.new.notes) c.in-Fails.is c.in_ok-page.ensures.acts in
    turn-fails k t rest (left plan c.args.item work) is work.notes c.act.new.notes work.page c.in-Fails.fault acts.0 acts.1
