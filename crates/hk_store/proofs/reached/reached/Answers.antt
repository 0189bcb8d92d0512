use Rattle.std.proofs.Common.{◌<◌, ◌∙◌, sym, ap, subst, suc, length, arith}
use Rattle.std.specs.List.{AllByRecursion, flat_map}
use Rattle.hk_rules.specs.Plan.{lookups}
use Rattle.hk_rules.specs.Recipe.{step_contexts}
use Rattle.hk_store.specs.Reached.{puts}
use Rattle.hk_store.proofs.Ascents.{puts-first, steps-below, all-below, round, all-reached, grows, few, fewer}
use Rattle.hk_store.proofs.reached.reached.Goals as goal

pub loop-numbers-init : goal.loop-numbers-init
loop-numbers-init c = (
  0,
  c.in_ok-put_named.ensures ∙ (ap (λ ms. puts ms (flat_map step_contexts c.args.steps.now)) c.new-numbers.ensures.items
      ∙ puts-first (length c.args.plan.now.contexts) (flat_map step_contexts c.args.steps.now) (steps-below (length c.args.plan.now.contexts) (length c.args.plan.now.patterns) c.args.steps.now c.requires.within)),
)

pub put_listed-requires : goal.put_listed-requires
put_listed-requires c =
    subst (AllByRecursion (λ n. n < length c.args.plan.now.contexts)) (sym (c.deref-in-loop-numbers.ensures.value ∙ c.loop-numbers.invariant.1))
    (all-below (lookups c.args.plan.now) (length c.args.plan.now.contexts) c.args.steps.now c.loop-numbers.invariant.0)

pub returns-then-len : goal.returns-then-len
returns-then-len c =
    let plan = c.args.plan.now in
    let times = c.loop-numbers.invariant.0 in
    let is = c.loop-numbers.invariant.1 in
    let more = round plan c.requires.linked c.args.steps.now times c.loop-numbers.numbers.items c.in_ok-more.more.items c.deref-in-loop-numbers.result.now c.put_listed.new.numbers.items is (c.in_ok-more.ensures.items ∙ c.deref.ensures.value) c.deref-in-loop-numbers.ensures.value c.in_ok-put_listed.ensures in
    is ∙ all-reached (lookups plan) (length plan.contexts) c.args.steps.now times
    (omega (arith, ap length is, ap length more, c.if-len.true, c.len.ensures, c.len-in-loop-numbers.ensures, c.loop-numbers.numbers.ok, c.put_listed.new.numbers.ok))

pub loop-numbers-smaller : goal.loop-numbers-smaller
loop-numbers-smaller c =
    let plan = c.args.plan.now in
    let times = c.loop-numbers.invariant.0 in
    let is = c.loop-numbers.invariant.1 in
    let more = round plan c.requires.linked c.args.steps.now times c.loop-numbers.numbers.items c.in_ok-more.more.items c.deref-in-loop-numbers.result.now c.put_listed.new.numbers.items is (c.in_ok-more.ensures.items ∙ c.deref.ensures.value) c.deref-in-loop-numbers.ensures.value c.in_ok-put_listed.ensures in
    fewer (length plan.contexts) (length c.loop-numbers.numbers.items) (length c.put_listed.new.numbers.items)
    (omega (arith, ap length is, ap length more, grows (lookups plan) (length plan.contexts) c.args.steps.now times))
    (omega (arith, ap length more, few (lookups plan) (length plan.contexts) c.args.steps.now (suc times)))
    (λ e. c.if-len.false (omega (arith, e, c.len.ensures, c.len-in-loop-numbers.ensures, c.loop-numbers.numbers.ok, c.put_listed.new.numbers.ok)))

pub loop-numbers-preserved : goal.loop-numbers-preserved
loop-numbers-preserved c =
    (suc c.loop-numbers.invariant.0, round c.args.plan.now c.requires.linked c.args.steps.now c.loop-numbers.invariant.0 c.loop-numbers.numbers.items c.in_ok-more.more.items c.deref-in-loop-numbers.result.now c.put_listed.new.numbers.items c.loop-numbers.invariant.1 (c.in_ok-more.ensures.items ∙ c.deref.ensures.value) c.deref-in-loop-numbers.ensures.value c.in_ok-put_listed.ensures)
