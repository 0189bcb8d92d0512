use Rattle.std.proofs.Common.{◌≡◌, sym, subst, rules, true}
use Rattle.hk_chain.specs.declared.page.Page.{Page}
use Rattle.hk_fix.specs.Pages.{Pages}
use Rattle.hk_fix.specs.Task.{Task}
use Rattle.hk_rules.specs.Plan.{Lookups, lookups}
use Rattle.hk_eval.specs.Asking.{is_text}
use Rattle.hk_eval.specs.Laws.{quiet-template}
use Rattle.hk_eval.specs.Templates.{template_task}
use Rattle.hk_eval.specs.Told.{told_pages}
use Rattle.hk_machine.specs.Acting.{Acts, Begins}
use Rattle.hk_machine.proofs.Applied.{begins-acts, text-applied}
use Rattle.hk_machine.proofs.rendering.apply.Goals as goal

pub returns-clause-acts : goal.returns-clause-acts
returns-clause-acts c =
    let plan : Lookups = lookups c.args.plan.now in
    let k : Pages = told_pages c.args.told.now in
    let page : Page = c.args.page.now in
    let text : is_text c.args.page.now.kind ≡ true = search rules in
    let begun : Begins plan (record { item = c.args.item; page = page; context = c.args.context }) c.in_ok-found.found c.in_ok-act.act = subst (λ (x : Page). Begins plan (record { item = c.args.item; page = x; context = c.args.context }) c.in_ok-found.found c.in_ok-act.act) c.in_ok-page.ensures (c.in_ok-act.ensures.begins plan) in
    subst (λ (t : Task Page). Acts plan k t page c.args.notes.now c.in_ok-act.act c.find_template.new.notes) (sym (text-applied plan c.args.item c.args.context page c.args.id.now text))
    (begins-acts plan k (template_task plan c.args.id.now) (quiet-template plan c.args.id.now) c.args.item c.args.context page c.args.notes.now c.find_template.new.notes page c.in_ok-found.found c.in_ok-act.act c.in_ok-found.ensures.comes begun)
