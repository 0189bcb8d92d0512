use Rattle.std.proofs.Common.{◌≡◌, take, None}
use Rattle.std.specs.List.{list_any}
use Rattle.hk_base.specs.Bytes.{Bytes}
use Rattle.hk_pattern.specs.Pattern.{is_id}
use Rattle.hk_rules.specs.Settled.{has_key}
use Rattle.hk_rules.proofs.universe.plain_paths.Given as goal

abbrev pub invariant-loop-id : goal.invariant-loop-id
invariant-loop-id l = (path : Bytes) → has_key l.paths.keys path ≡ list_any (is_id path None) (take l.id-index l.ids)
