use Rattle.std.proofs.Common.{◌≡◌, ◌+◌, ◌*◌, drop}
use Rattle.toml.specs.View.{items_view}
use Rattle.hk_forms.specs.Members.{each}
use Rattle.hk_forms.specs.RouteForm.{route_at}
use Rattle.hk_forms.proofs.Tables.{prepend}
use Rattle.hk_forms.proofs.route_form.+routes.Given as goal

-- the routes so far and those of the rest are all
abbrev pub invariant-each_route-loop-item : goal.invariant-each_route-loop-item
invariant-each_route-loop-item l = prepend l.routes (each (route_at l.depth) (items_view (drop l.item-index l.items))) ≡ each (route_at l.depth) (items_view l.items)

abbrev pub decreases-route_at : goal.decreases-route_at
decreases-route_at l = 8 * l.depth

abbrev pub decreases-each_route : goal.decreases-each_route
decreases-each_route l = 8 * l.depth + 1

abbrev pub decreases-routes_in : goal.decreases-routes_in
decreases-routes_in l = 8 * l.depth + 2

abbrev pub decreases-compose_by : goal.decreases-compose_by
decreases-compose_by l = 8 * l.depth + 3

abbrev pub decreases-keyed : goal.decreases-keyed
decreases-keyed l = 8 * l.depth + 4

abbrev pub decreases-use_when : goal.decreases-use_when
decreases-use_when l = 8 * l.depth + 4

abbrev pub decreases-table_by : goal.decreases-table_by
decreases-table_by l = 8 * l.depth + 5

abbrev pub decreases-in_table : goal.decreases-in_table
decreases-in_table l = 8 * l.depth + 6

abbrev pub decreases-route_by : goal.decreases-route_by
decreases-route_by l = 8 * l.depth + 7
