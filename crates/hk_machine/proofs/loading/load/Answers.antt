use Rattle.std.proofs.Common.{◌≡◌, sym, ap, ◌∙◌, subst, Some}
use Rattle.hk_chain.specs.declared.page.Page.{Page as PageView}
use Rattle.hk_chain.specs.declared.fault.Fault.TheVariants.{NoSnapshot}
use Rattle.hk_fix.specs.Task.{Task, ◌▷◌}
use Rattle.hk_rules.specs.Plan.{lookups}
use Rattle.hk_machine.specs.Acting.{Acts}
use Rattle.hk_eval.specs.Asking.{ask, ask_item, ask_pair, need_text}
use Rattle.hk_eval.specs.Told.{told_pages}
use Rattle.hk_machine.proofs.loading.load.Goals as goal

pub returns-in_ok-act-in-Some-pair-clause-acts : goal.returns-in_ok-act-in-Some-pair-clause-acts
returns-in_ok-act-in-Some-pair-clause-acts c =
    let plan = lookups c.args.plan.now in
    let same : ask plan c.args.id.now c.args.name.now ≡ ask_pair (NoSnapshot c.args.id.now c.args.name.now) (Some c.in-Some-pair.pair) = ap (ask_item plan c.args.id.now c.args.name.now) (sym c.find.ensures ∙ c.in-Some.is) ∙ ap (ask_pair (NoSnapshot c.args.id.now c.args.name.now)) (sym c.pair.ensures ∙ c.in-Some-pair.is) in
    λ page. subst (λ (t : Task PageView). Acts plan (told_pages c.args.told.now) (t ▷ need_text c.args.id.now) page c.args.notes.now c.in_ok-act-in-Some-pair.act c.loaded.new.notes) (sym same) (c.in_ok-act-in-Some-pair.ensures.acts plan page)
