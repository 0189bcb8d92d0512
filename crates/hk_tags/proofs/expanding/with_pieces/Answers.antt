use Rattle.std.proofs.Common.{◌<◌, ◌≤◌, arith, length}
use Rattle.std.proofs.lemmas.Result.{err_from_is_err_and}
use Rattle.hk_rules.specs.Plan.{lookups}
use Rattle.hk_rules_file.specs.declared.tables.PageRule.{PageRule}
use Rattle.hk_tags.specs.Expanding.{with_page_table}
use Rattle.hk_tags.proofs.Linkage.{all-here}
use Rattle.hk_tags.proofs.Turning.{turn-step, turn-stop, turn-end, left-at, left-none}
use Rattle.hk_tags.proofs.expanding.with_pieces.Goals as goal

pub with_page_table-requires-clause-context : goal.with_page_table-requires-clause-context
with_page_table-requires-clause-context c =
    let h = all-here (λ (table : PageRule). table.context < length c.args.grown.growing.contexts) c.args.tables.now c.loop-table.table-index c.table-item.result c.loop-table-test.true c.table-item.is c.requires.contexts in
    omega (arith, h, c.loop-table.invariant.more)

pub with_page_table-requires-clause-some : goal.with_page_table-requires-clause-some
with_page_table-requires-clause-some c = all-here (λ (table : PageRule). 1 ≤ table.per) c.args.tables.now c.loop-table.table-index c.table-item.result c.loop-table-test.true c.table-item.is c.requires.some

pub loop-table-preserved : goal.loop-table-preserved
loop-table-preserved c = record {
  value = turn-step (with_page_table (lookups c.args.base.now)) _ c.table-item.result _ _ c.loop-table.grown _ c.loop-table.invariant.value (left-at c.args.tables.now c.loop-table.table-index c.table-item.result c.loop-table-test.true c.table-item.is) c.in_ok-grown.ensures.value;
  more = omega (arith, c.loop-table.invariant.more, c.in_ok-grown.ensures.more);
}

pub returns-in_err-grown : goal.returns-in_err-grown
returns-in_err-grown c =
    let p = err_from_is_err_and c.from_residual.result c.from_residual.ensures.1 in
    rw (p.1, p.2) (turn-stop (with_page_table (lookups c.args.base.now)) _ c.table-item.result _ _ c.loop-table.grown c.in_err-grown.field-0.0 c.loop-table.invariant.value (left-at c.args.tables.now c.loop-table.table-index c.table-item.result c.loop-table-test.true c.table-item.is) c.in_err-grown.ensures.value)

pub returns : goal.returns
returns c = turn-end (with_page_table (lookups c.args.base.now)) _ _ c.loop-table.grown c.loop-table.invariant.value (left-none c.args.tables.now c.loop-table.table-index c.loop-table-test.false)
