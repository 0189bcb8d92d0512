use Rattle.std.proofs.Common.{◌≡◌, ℕ, ◌<◌, false, get_or, length, take}
use Rattle.hk_fix.specs.Facts.{is_in}
use Rattle.hk_build.proofs.shown.marked.Given as goal

-- the items so far are marked
abbrev pub invariant-loop-item : goal.invariant-loop-item
invariant-loop-item l = record {
  count : length l.marks.items ≡ l.count;
  marks : (i : ℕ) → i < l.count → get_or l.marks.items i false ≡ is_in (take l.item-index l.items) i;
}
