use Rattle.std.proofs.Common.{◌≡◌, ◌++◌, drop}
use Rattle.hk_forms.specs.PatternText.{idents_text}
use Rattle.hk_forms.proofs.pattern_text.write_each_ident.Given as goal

-- the text so far and that of the rest are all
abbrev pub invariant-loop-id : goal.invariant-loop-id
invariant-loop-id l = l.out.items ++ idents_text (drop l.id-index l.ids) ≡ l.fn.out.items ++ idents_text l.ids
