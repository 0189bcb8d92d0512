use Rattle.std.proofs.Common.{◌≡◌, ◌≤◌, length}
use Rattle.hk_app.specs.Generated.{with_target}
use Rattle.hk_app.proofs.generating.pages.Given as goal

-- the items so far that have a target are counted
abbrev pub invariant-loop-item : goal.invariant-loop-item
invariant-loop-item l =
    record {
      few : l.item ≤ length l.plan.items;
      most : l.pages ≤ l.item;
      count : l.pages ≡ with_target l.plan l.item;
    }
