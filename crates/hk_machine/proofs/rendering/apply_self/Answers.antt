use Rattle.std.proofs.Common.{◌≡◌, sym, ap, ◌∙◌, subst, rules, true, []}
use Rattle.hk_base.specs.Bytes.{Bytes}
use Rattle.hk_chain.specs.declared.page.Page.{Page}
use Rattle.hk_fix.specs.Task.{Task, run}
use Rattle.hk_rules.specs.Plan.{Lookups, lookups}
use Rattle.hk_template.specs.Growing.{read_tree}
use Rattle.hk_eval.specs.Asking.{is_text}
use Rattle.hk_eval.specs.Laws.{quiet-tree}
use Rattle.hk_eval.specs.Replies.{found_end}
use Rattle.hk_eval.specs.Templates.{tree_task}
use Rattle.hk_machine.specs.Acting.{Acts, Begins}
use Rattle.hk_machine.proofs.Applied.{begins-acts, ran-comes, text-itself}
use Rattle.hk_machine.proofs.rendering.apply_self.Goals as goal

pub returns-clause-acts : goal.returns-clause-acts
returns-clause-acts c = λ k notes.
    let plan : Lookups = lookups c.args.plan.now in
    let page : Page = c.args.page.now in
    let text : is_text c.args.page.now.kind ≡ true = search rules in
    let body : c.as_slice.result.now ≡ c.args.page.now.body = c.as_slice.ensures ∙ ap (λ (x : Page). x.body) c.get-text.ensures in
    let ran : run (tree_task c.args.page.now.body) k ≡ record { log = []; end = found_end c.in_ok-found.found } = subst (λ (b : Bytes). run (tree_task b) k ≡ record { log = []; end = found_end c.in_ok-found.found }) body (c.in_ok-found.ensures.comes k) in
    let begun : Begins plan (record { item = c.args.item; page = page; context = c.args.context }) c.in_ok-found.found c.in_ok-act.act = subst (λ (x : Page). Begins plan (record { item = c.args.item; page = x; context = c.args.context }) c.in_ok-found.found c.in_ok-act.act) c.in_ok-page.ensures (c.in_ok-act.ensures.begins plan) in
    subst (λ (t : Task Page). Acts plan k t page notes c.in_ok-act.act notes) (sym (text-itself plan c.args.item c.args.context page text))
    (begins-acts plan k (tree_task page.body) (quiet-tree (read_tree page.body)) c.args.item c.args.context page notes notes page c.in_ok-found.found c.in_ok-act.act (ran-comes k (tree_task page.body) notes c.in_ok-found.found ran) begun)
