use Rattle.std.proofs.Common.{length, sym, ap, ◌∙◌, subst}
use Rattle.std.specs.List.{AllByRecursion}
use Rattle.hk_chain.specs.Context.{ContextView}
use Rattle.hk_rules_file.specs.Linked.{IsLinkedField}
use Rattle.hk_store.proofs.Ascents.{linked-fields}
use Rattle.hk_store.proofs.fingerprints.write_context.Goals as goal

pub write_each_field-requires : goal.write_each_field-requires
write_each_field-requires c =
    subst (AllByRecursion (IsLinkedField (length c.args.plan.now.contexts) (length c.args.plan.now.patterns))) (sym (c.deref.ensures.value ∙ ap (λ (v : ContextView). v.fields) (c.named.view_is ∙ c.context-named.ensures)))
    (linked-fields c.args.plan.now c.requires.linked c.args.number c.requires.within)
