-- The targets of items.
use Rattle.std.specs.Prelude.{Option, Some, None, Result, Ok, Err}
use Rattle.hk_base.specs.Bytes.{Bytes}
use Rattle.hk_base.specs.Identifier.{Ident}
use Rattle.hk_route.specs.Route as route
use Rattle.hk_route.specs.declared.route.Route.{Route}
use Rattle.hk_route.specs.declared.route.RouteFault.{RouteFault}
use Rattle.hk_rules.specs.Universe.{Claim}
use Rattle.hk_rules.specs.declared.plan_fault.PlanFault.{PlanFault}
use Rattle.hk_rules.specs.declared.plan_fault.PlanFault.TheVariants.{BadTarget}

abbrev pub target_by : Ident → Result (Option Bytes) RouteFault → Result (Option Bytes) PlanFault
target_by id (Ok target) = Ok target
target_by id (Err fault) = Err (BadTarget id)

abbrev pub target_at : Ident → Option Route → Result (Option Bytes) PlanFault
target_at id None = Ok None
target_at id (Some by) = target_by id (route.target by id)

-- the target that the route of its rule gives an item, none without a route or where it doesn't apply
abbrev pub target_of : Claim → Result (Option Bytes) PlanFault
target_of item = target_at item.0 item.1.rule.route
