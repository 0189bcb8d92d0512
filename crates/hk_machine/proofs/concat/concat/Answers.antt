use Rattle.std.proofs.Common.{◌≡◌, sym, ap, ◌∙◌, subst, ◌<◌, length, Ok, Err}
use Rattle.std.specs.List.{AllByRecursion}
use Rattle.hk_chain.specs.Names.{final_name}
use Rattle.hk_rules.specs.Plan.{lookups}
use Rattle.hk_eval.specs.Asking.{pairs_of}
use Rattle.hk_eval.specs.Groups.{group_of}
use Rattle.hk_eval.proofs.Grouping.{lacks-in, pairs-length}
use Rattle.hk_machine.proofs.concat.concat.Goals as goal

pub all_of-requires-clause-same : goal.all_of-requires-clause-same
all_of-requires-clause-same c =
    let pairs : pairs_of (lookups c.args.plan.now) final_name c.matches-items.result.now ≡ Ok c.in-Pairs.pairs.items = sym c.in_ok-pairs.ensures ∙ ap group_of c.in-Pairs.is in
    pairs-length (lookups c.args.plan.now) final_name c.matches-items.result.now c.in-Pairs.pairs.items pairs ∙ ap length (sym c.deref.ensures.value)

pub all_of-requires-clause-items : goal.all_of-requires-clause-items
all_of-requires-clause-items c = subst (AllByRecursion (λ i. i < length c.args.plan.now.items)) (sym c.matches-items.ensures) (c.requires.plan.renders.matched c.args.pattern)

pub id-requires : goal.id-requires
id-requires c =
    let lacks : pairs_of (lookups c.args.plan.now) final_name c.matches-items.result.now ≡ Err c.in-Lacks.item = sym c.in_ok-pairs.ensures ∙ ap group_of c.in-Lacks.is in
    lacks-in (λ i. i < length c.args.plan.now.items) (lookups c.args.plan.now) final_name c.matches-items.result.now c.in-Lacks.item (subst (AllByRecursion (λ i. i < length c.args.plan.now.items)) (sym c.matches-items.ensures) (c.requires.plan.renders.matched c.args.pattern)) lacks
