use Rattle.std.proofs.Common.{◌<◌, ◌∙◌, ◌-◌, arith}
use Rattle.std.proofs.lemmas.Result.{IfOk-weaker}
use Rattle.toml.specs.View.{view}
use Rattle.hk_forms.specs.PatternForm.{pattern_at}
use Rattle.hk_forms.specs.RouteForm.{route_at, route_by}
use Rattle.hk_forms.proofs.Tables.{listed-long, listed-each}
use Rattle.hk_forms.proofs.Open.{route_at-open}
use Rattle.hk_forms.proofs.route_form.+routes.Goals as goal

pub route_at-returns : goal.route_at-returns
route_at-returns t c =
    let some : 0 < c.args.depth = omega arith in
    let is = route_at-open c.args.depth (view c.args.value.now) some in
    IfOk-weaker c.route_by.result _ _ (λ o e. e ∙ (λ i. route_by (pattern_at (c.args.depth - 1)) (route_at (c.args.depth - 1)) (c.text_in.ensures i) (c.items_in.ensures i) (c.table_in.ensures i)) ∙ is) c.route_by.ensures

pub routes_in-returns-then-items-gt-MOST_MEMBERS :
    goal.routes_in-returns-then-items-gt-MOST_MEMBERS
routes_in-returns-then-items-gt-MOST_MEMBERS t c = listed-long (route_at c.args.depth) c.args.items.now c.if-items-gt-MOST_MEMBERS.true

pub routes_in-returns : goal.routes_in-returns
routes_in-returns t c = IfOk-weaker c.each_route.result _ _ (λ o e. e ∙ listed-each (route_at c.args.depth) c.args.items.now c.if-items-gt-MOST_MEMBERS.false) c.each_route.ensures
