use Rattle.std.proofs.Common.{◌≡◌, ◌++◌, length, drop, ◌-◌, ◌≤◌}
use Rattle.std.specs.List.{flat_map}
use Rattle.hk_forms.specs.PatternText.{str}
use Rattle.hk_store.specs.Told.{both}
use Rattle.hk_store.proofs.digests.write_pairs.Given as goal

-- the text so far and that of the rest are all, and each pair has a byte
abbrev pub invariant-loop-key : goal.invariant-loop-key
invariant-loop-key l =
    record {
      few : l.place ≤ length l.meta;
      room : l.place ≤ length l.out.items;
      told : l.out.items ++ flat_map (both str str) (drop l.place l.meta) ≡ l.fn.out.items ++ flat_map (both str str) l.meta;
    }

abbrev pub decreases-loop-key : goal.decreases-loop-key
decreases-loop-key l = length l.meta - l.place
