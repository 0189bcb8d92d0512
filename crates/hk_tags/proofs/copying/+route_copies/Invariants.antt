use Rattle.std.proofs.Common.{◌≡◌, take}
use Rattle.hk_tags.proofs.copying.+route_copies.Given as goal

abbrev pub invariant-copy_routes-loop-route : goal.invariant-copy_routes-loop-route
invariant-copy_routes-loop-route l = l.copies ≡ take l.route-index l.routes
