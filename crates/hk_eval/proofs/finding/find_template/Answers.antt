use Rattle.std.proofs.Common.{sym, ap, ◌∙◌, subst, IfOk}
use Rattle.hk_chain.specs.declared.fault.Fault.TheVariants.{Missing, NoSnapshot}
use Rattle.hk_fix.specs.Task.{Task, fault}
use Rattle.hk_chain.specs.Names.{final_name}
use Rattle.hk_rules.specs.Plan.{lookups}
use Rattle.hk_template.specs.Tree.{Nodes}
use Rattle.hk_eval.specs.Replies.{found_end, Comes}
use Rattle.hk_eval.specs.Told.{told_pages}
use Rattle.hk_eval.proofs.Comings.{template-pair, template-missing, template-lacks}
use Rattle.hk_eval.proofs.finding.find_template.Goals as goal

pub returns-in_default-clause-comes : goal.returns-in_default-clause-comes
returns-in_default-clause-comes c =
    template-missing (lookups c.args.plan.now) c.args.id.now (told_pages c.args.told.now) (sym c.find.ensures ∙ c.in_default.is) ∙ ap (λ id. fault (Missing id)) (sym c.in_ok-copy.ensures)

pub returns-in-Some-pair-clause-comes : goal.returns-in-Some-pair-clause-comes
returns-in-Some-pair-clause-comes c =
    subst (λ (t : Task Nodes). IfOk c.template_in.result (λ r. Comes (told_pages c.args.told.now) t c.args.notes.now (found_end r) c.template_in.new.notes))
    (sym (template-pair (lookups c.args.plan.now) c.args.id.now c.in-Some.item c.in-Some-pair.pair (sym c.find.ensures ∙ c.in-Some.is) (sym c.pair.ensures ∙ c.in-Some-pair.is))) c.template_in.ensures.comes

pub returns-in_ok-from_slice-in-None-clause-comes : goal.returns-in_ok-from_slice-in-None-clause-comes
returns-in_ok-from_slice-in-None-clause-comes c =
    template-lacks (lookups c.args.plan.now) c.args.id.now c.in-Some.item (told_pages c.args.told.now) (sym c.find.ensures ∙ c.in-Some.is) (sym c.pair.ensures ∙ c.in-None.is)
    ∙ (ap (λ id. fault (NoSnapshot id final_name)) (sym c.in_ok-copy-in-None.ensures) ∙ ap (λ n. fault (NoSnapshot c.in_ok-copy-in-None.field-0 n)) (sym c.in_ok-from_slice-in-None.ensures))
