use Rattle.std.proofs.Common.{◌≡◌, ◌++◌, drop}
use Rattle.std.specs.List.{flat_map}
use Rattle.hk_forms.specs.PatternText.{ident_text}
use Rattle.hk_store.proofs.print.write_each_ident.Given as goal

-- the text so far and that of the rest are all
abbrev pub invariant-loop-id : goal.invariant-loop-id
invariant-loop-id l = l.out.items ++ flat_map ident_text (drop l.id-index l.ids) ≡ l.fn.out.items ++ flat_map ident_text l.ids
