use Rattle.std.proofs.lemmas.Result.{err_from_is_err_and}
use Rattle.hk_rules.specs.Targets.{target_of}
use Rattle.hk_rules.proofs.Traversal.{each_stop}
use Rattle.hk_rules.proofs.targets.targets_of.Goals as goal

pub returns-in_err-target : goal.returns-in_err-target
returns-in_err-target c =
    let p = err_from_is_err_and c.from_residual-in_err-target.result c.from_residual-in_err-target.ensures.1 in
    rw (p.1, p.2) (each_stop target_of c.args.items.now c.loop-item.targets.items c.loop-item.item-index c.item-item.result c.item-item.result c.in_err-target.field-0.0 c.loop-item-test.true c.item-item.is c.loop-item.invariant c.in_err-target.ensures)
