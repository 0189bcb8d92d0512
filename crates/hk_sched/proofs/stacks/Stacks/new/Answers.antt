use Rattle.std.proofs.Common.{rules}
use Rattle.hk_sched.proofs.Chains.{opened}
use Rattle.hk_sched.proofs.stacks.Stacks.new.Goals as goal

pub invariant_of-result : goal.invariant_of-result
invariant_of-result c =
    opened _ _ _ c.args.pairs c.args.items (c.in_ok-vec.ensures.items_if_clones_equal (λ y. search rules)) (c.in_ok-vec-2.ensures.items_if_clones_equal (λ y. search rules))
    (c.in_ok-vec-3.ensures.items_if_clones_equal (λ y. search rules))
