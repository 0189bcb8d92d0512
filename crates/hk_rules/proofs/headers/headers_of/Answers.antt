use Rattle.std.proofs.lemmas.Result.{err_from_is_err_and}
use Rattle.hk_rules.specs.Headers.{header_of}
use Rattle.hk_rules.proofs.Traversal.{each_stop}
use Rattle.hk_rules.proofs.headers.headers_of.Goals as goal

pub returns-in_err-header : goal.returns-in_err-header
returns-in_err-header c =
    let p = err_from_is_err_and c.from_residual-in_err-header.result c.from_residual-in_err-header.ensures.1 in
    rw (p.1, p.2) (each_stop header_of c.args.items.now c.loop-item.headers.items c.loop-item.item-index c.item-item.result c.item-item.result c.in_err-header.field-0.0 c.loop-item-test.true c.item-item.is c.loop-item.invariant c.in_err-header.ensures)
