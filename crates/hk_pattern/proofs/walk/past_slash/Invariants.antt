use Rattle.std.proofs.Common.{◌≡◌, ◌≤◌, length}
use Rattle.hk_pattern.specs.Walk.{past_slash}
use Rattle.hk_pattern.proofs.walk.past_slash.Given as goal

abbrev pub invariant-loop-rest : goal.invariant-loop-rest
invariant-loop-rest l = record {
  same : past_slash l.rest ≡ past_slash l.path;
  shorter : length l.rest ≤ length l.path;
}

abbrev pub decreases-loop-rest : goal.decreases-loop-rest
decreases-loop-rest l = length l.rest
