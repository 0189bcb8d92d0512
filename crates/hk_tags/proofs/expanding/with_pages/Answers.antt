use Rattle.std.proofs.Common.{subst, arith, length}
use Rattle.std.proofs.lemmas.Result.{err_from_is_err_and}
use Rattle.hk_rules.specs.Plan.{lookups}
use Rattle.hk_tags.specs.Expanding.{with_one}
use Rattle.hk_tags.specs.Listings.{ArePagesWithin}
use Rattle.hk_tags.specs.Made.{making_of}
use Rattle.hk_tags.proofs.Turning.{turn-step, turn-stop}
use Rattle.hk_tags.proofs.expanding.with_pages.Goals as goal

pub loop-page-preserved : goal.loop-page-preserved
loop-page-preserved c = record {
  value = turn-step (with_one (lookups c.args.base.now) (making_of c.args.making.now)) _ c.in-Some.page _ _ c.loop-page.grown _ c.loop-page.invariant.value c.in-Some.ensures.steps.0 c.in_ok-grown.ensures.value;
  context = omega (arith, c.loop-page.invariant.context, c.in_ok-grown.ensures.more);
  more = omega (arith, c.loop-page.invariant.more, c.in_ok-grown.ensures.more);
  within = (subst (ArePagesWithin (length c.args.base.now.items)) c.in-Some.ensures.steps.0 c.loop-page.invariant.within).1;
}

pub returns-in_err-grown-clause-value : goal.returns-in_err-grown-clause-value
returns-in_err-grown-clause-value c =
    let p = err_from_is_err_and c.from_residual.result c.from_residual.ensures.1 in
    rw (p.1, p.2) (turn-stop (with_one (lookups c.args.base.now) (making_of c.args.making.now)) _ c.in-Some.page _ _ c.loop-page.grown c.in_err-grown.field-0.0 c.loop-page.invariant.value c.in-Some.ensures.steps.0 c.in_err-grown.ensures.value)
