use Rattle.std.proofs.Common.{◌∙◌, sym, ap, Some}
use Rattle.std.proofs.lemmas.List.{get_or_default}
use Rattle.hk_chain.specs.Kept.{at_place}
use Rattle.hk_sched.specs.declared.stacks.Stack.TheVariants.{Waiting}
use Rattle.hk_sched.proofs.Lacks.{lacks-at}
use Rattle.hk_sched.proofs.roster.stack_of.Goals as goal

pub returns-then-cursor-open-clause-stack : goal.returns-then-cursor-open-clause-stack
returns-then-cursor-open-clause-stack g c =
    rw (c.in-Held.is, ← c.open_pairs-open.ensures)
    (ap (λ n. Some (Waiting n)) (c.index-open-cursor.is ∙ sym (get_or_default c.open_pairs-open.result.now c.next_unknown.result 0 c.index-open-cursor.result c.if-cursor-open.true))
    ∙ ap Some (sym (lacks-at (at_place c.args.known.now) c.open_pairs-open.result.now c.next_unknown.result c.next_unknown.ensures.within.found c.if-cursor-open.true (c.next_unknown.ensures.lacks c.if-cursor-open.true))))
