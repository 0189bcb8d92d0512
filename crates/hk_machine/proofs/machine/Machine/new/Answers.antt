use Rattle.std.proofs.Common.{refl, subst}
use Rattle.hk_machine.proofs.Answering.{no-room}
use Rattle.hk_machine.proofs.Beginning.{begins}
use Rattle.hk_machine.proofs.Refused.{keeps-come}
use Rattle.hk_machine.specs.Runnable.{Runs}
use Rattle.hk_machine.proofs.machine.Machine.new.Goals as goal

pub invariant_of-result : goal.invariant_of-result
invariant_of-result c =
    let runs : Runs c.args.plan = subst Runs c.get.ensures c.runs.ensures in
    let keeps = begins c.args.plan c.args.item _ refl c.in_ok-page_of.ensures refl c.new.ensures c.new-2.ensures refl refl c.new-3.ensures.items in
    (runs, c.requires, λ e n. keeps, no-room c.args.plan c.args.item runs c.requires _ c.none.ensures, keeps-come c.args.plan c.args.item _ keeps)
