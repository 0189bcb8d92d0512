use Rattle.std.proofs.Common.{◌≡◌, ◌++◌, drop}
use Rattle.std.specs.List.{flat_map}
use Rattle.hk_store.specs.StoreText.{entry_text}
use Rattle.hk_store.proofs.print.write_entries.Given as goal

-- the text so far and that of the rest are all
abbrev pub invariant-loop-entry : goal.invariant-loop-entry
invariant-loop-entry l = l.out.items ++ flat_map entry_text (drop l.entry-index l.entries) ≡ l.fn.out.items ++ flat_map entry_text l.entries
