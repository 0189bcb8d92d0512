use Rattle.hk_machine.proofs.step.act.Goals as goal

pub returns-in_ok-act-in-Load-clause-within : goal.returns-in_ok-act-in-Load-clause-within
returns-in_ok-act-in-Load-clause-within c = c.in_ok-act-in-Load.ensures.within c.args.plan.now

pub returns-in_ok-act-in-Concat-clause-within : goal.returns-in_ok-act-in-Concat-clause-within
returns-in_ok-act-in-Concat-clause-within c = c.in_ok-act-in-Concat.ensures.within c.args.plan.now
