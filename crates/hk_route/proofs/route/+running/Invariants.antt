use Rattle.std.proofs.Common.{◌≡◌, map, drop}
use Rattle.std.specs.Option.{option_copied}
use Rattle.hk_route.specs.Route.{routed, composed, first_of}
use Rattle.hk_route.proofs.route.+running.Given as goal

abbrev pub invariant-run_all-loop-route : goal.invariant-run_all-loop-route
invariant-run_all-loop-route l = composed (map routed (drop l.route-index l.later)) l.so_far ≡ composed (map routed l.routes) l.path

abbrev pub invariant-run_first-loop-route : goal.invariant-run_first-loop-route
invariant-run_first-loop-route l = first_of (map routed (drop l.route-index l.routes)) l.path (option_copied l.version) ≡ first_of (map routed l.routes) l.path (option_copied l.version)
