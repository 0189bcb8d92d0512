use Rattle.std.proofs.Common.{refl, sym, subst}
use Rattle.hk_eval.specs.declared.found.Found.{Found}
use Rattle.hk_machine.specs.Acting.{Begins}
use Rattle.hk_machine.specs.declared.act.Act.TheVariants.{Renders, Asks}
use Rattle.hk_machine.proofs.rendering.begin.Goals as goal

pub returns-in_ok-stack-in-Tree-clause-begins : goal.returns-in_ok-stack-in-Tree-clause-begins
returns-in_ok-stack-in-Tree-clause-begins c = λ plan.
    subst (λ (f : Found). Begins plan c.args.here f (Renders c.in_ok-stack-in-Tree.stack)) (sym c.in-Tree.is)
    (c.in_ok-stack-in-Tree.stack, refl, c.in_ok-stack-in-Tree.ensures.left plan)

pub returns-in_ok-one-in-Asks-clause-begins : goal.returns-in_ok-one-in-Asks-clause-begins
returns-in_ok-one-in-Asks-clause-begins c = λ plan.
    subst (λ (f : Found). Begins plan c.args.here f (Asks c.in_ok-one-in-Asks.field-0)) (sym c.in-Asks.is)
    (c.in_ok-one-in-Asks.field-0, refl, c.in_ok-one-in-Asks.ensures)
