use Rattle.std.proofs.Common.{◌≡◌, ◌++◌, map, drop}
use Rattle.std.specs.List.{flat_map}
use Rattle.hk_store.specs.Marks.{mark_view}
use Rattle.hk_store.specs.StoreText.{mark_text}
use Rattle.hk_store.proofs.print.write_each_mark.Given as goal

-- the text so far and that of the rest are all
abbrev pub invariant-loop-mark : goal.invariant-loop-mark
invariant-loop-mark l = l.out.items ++ flat_map mark_text (map mark_view (drop l.mark-index l.marks)) ≡ l.fn.out.items ++ flat_map mark_text (map mark_view l.marks)
