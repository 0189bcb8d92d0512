use Rattle.std.proofs.Common.{◌≡◌, ◌++◌, map, drop}
use Rattle.hk_forms.specs.PatternText.{texts_joined, text_of}
use Rattle.hk_forms.proofs.pattern_text.+writing.Given as goal

-- the text so far and that of the rest are all
abbrev pub invariant-write_each-loop-pattern : goal.invariant-write_each-loop-pattern
invariant-write_each-loop-pattern l = l.out.items ++ texts_joined (map text_of (drop l.pattern-index l.patterns)) ≡ l.fn.out.items ++ texts_joined (map text_of l.patterns)
