use Rattle.std.proofs.Common.{◌≡◌, ◌++◌, length, take, drop, ◌-◌, ◌≤◌}
use Rattle.hk_store.specs.Reached.{put}
use Rattle.hk_store.proofs.reached.put_number.Given as goal

-- the numbers before the place are below the number
abbrev pub invariant-loop-place : goal.invariant-loop-place
invariant-loop-place l =
    record {
      few : l.place ≤ length l.numbers.items;
      below : put l.number l.numbers.items ≡ take l.place l.numbers.items ++ put l.number (drop l.place l.numbers.items);
    }

abbrev pub decreases-loop-place : goal.decreases-loop-place
decreases-loop-place l = length l.numbers.items - l.place
