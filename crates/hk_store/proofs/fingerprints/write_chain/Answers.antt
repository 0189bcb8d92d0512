use Rattle.std.proofs.Common.{◌∙◌, ◌<◌, sym, subst, length, rules, append_assoc}
use Rattle.std.specs.List.{AllByRecursion}
use Rattle.hk_rules.specs.Plan.{lookups}
use Rattle.hk_rules.specs.Recipe.{recipe_of}
use Rattle.hk_rules.proofs.Reaching.{reached-within}
use Rattle.hk_rules_file.specs.Linked.{IsStepWithin}
use Rattle.hk_store.proofs.Ascents.{linked-steps}
use Rattle.hk_store.proofs.fingerprints.write_chain.Goals as goal

pub write_steps-requires : goal.write_steps-requires
write_steps-requires c =
    subst (AllByRecursion (IsStepWithin (length c.args.plan.now.contexts) (length c.args.plan.now.patterns))) (sym (c.deref.ensures.value ∙ (c.behind-plan.view_is ∙ c.chain.ensures)))
    (linked-steps c.args.plan.now c.requires.linked c.args.item c.requires.item)

pub reached-requires-clause-within : goal.reached-requires-clause-within
reached-requires-clause-within c =
    subst (AllByRecursion (IsStepWithin (length c.args.plan.now.contexts) (length c.args.plan.now.patterns))) (sym (c.deref-2.ensures.value ∙ (c.behind-plan.view_is ∙ c.chain.ensures)))
    (linked-steps c.args.plan.now c.requires.linked c.args.item c.requires.item)

pub write_contexts-requires-clause-within : goal.write_contexts-requires-clause-within
write_contexts-requires-clause-within c =
    subst (AllByRecursion (λ n. n < length c.args.plan.now.contexts)) (sym (c.deref-3.ensures.value ∙ c.in_ok-numbers.ensures))
    (reached-within (lookups c.args.plan.now) (length c.args.plan.now.contexts) c.deref-2.result.now)

pub returns : goal.returns
unfolding recipe_of
returns c = search (rules, append_assoc)
