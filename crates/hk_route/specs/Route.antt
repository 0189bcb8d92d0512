-- The path that a route gives.
use Rattle.std.specs.Prelude.{List, [], ◌∷◌, Option, Some, None, Result, Ok, Err, if◌then◌else◌}
use Rattle.hk_base.specs.Bytes.{Bytes}
use Rattle.hk_base.specs.Identifier.{Ident, is_path}
use Rattle.hk_pattern.specs.Pattern.{matches}
use Rattle.hk_route.specs.declared.route.Route.{Route, fold-Route}
use Rattle.hk_route.specs.declared.route.Route.TheOpen.{Route-F}
use Rattle.hk_route.specs.declared.route.RouteFault.{RouteFault}
use Rattle.hk_route.specs.declared.route.RouteFault.TheVariants.{BadTarget}
use Rattle.hk_route.specs.Rewriting.{with_extension, replaced}

-- the path that comes of a path and a version, or none
abbrev pub Run : Type 0
Run = Bytes → Option Bytes → Option Bytes

abbrev pub then_by : Option Bytes → (Bytes → Option Bytes) → Option Bytes
then_by None next = None
then_by (Some path) next = next path

-- each on the path so far, without a version
abbrev pub composed : List Run → Bytes → Option Bytes
composed [] path = Some path
composed (run ∷ runs) path = then_by (run path None) (composed runs)

abbrev pub or_by : Option Bytes → Option Bytes → Option Bytes
or_by (Some path) other = Some path
or_by None other = other

-- the first that applies
abbrev pub first_of : List Run → Run
first_of [] path version = None
first_of (run ∷ runs) path version = or_by (run path version) (first_of runs path version)

-- what a route does, from what the routes in it do
abbrev pub run_of : Route-F Run → Run
run_of Route-F.Id path version = Some path
run_of (Route-F.Extension extension) path version = Some (with_extension extension path)
run_of (Route-F.Constant text) path version = Some text
run_of (Route-F.Gsub old new) path version = Some (replaced old new path)
run_of (Route-F.When pattern run) path version = if matches pattern path version then run path version else None
run_of (Route-F.Compose runs) path version = composed runs path
run_of (Route-F.First runs) path version = first_of runs path version

abbrev pub routed : Route → Run
routed = fold-Route Run run_of

abbrev pub checked : Option Bytes → Result (Option Bytes) RouteFault
checked None = Ok None
checked (Some path) = if is_path path then Ok (Some path) else Err (BadTarget path)

-- the target of an identifier, none where the route doesn't apply, or the fault of what is no path
abbrev pub target : Route → Ident → Result (Option Bytes) RouteFault
target route id = checked (routed route id.path id.version)
