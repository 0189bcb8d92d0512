use Rattle.std.proofs.Common.{◌≡◌, ◌+◌, ◌*◌, drop}
use Rattle.toml.specs.View.{items_view}
use Rattle.hk_forms.specs.Members.{each}
use Rattle.hk_forms.specs.PatternForm.{pattern_at}
use Rattle.hk_forms.proofs.Tables.{prepend}
use Rattle.hk_forms.proofs.pattern_form.+patterns.Given as goal

-- the patterns so far and those of the rest are all
abbrev pub invariant-each_pattern-loop-item : goal.invariant-each_pattern-loop-item
invariant-each_pattern-loop-item l = prepend l.patterns (each (pattern_at l.depth) (items_view (drop l.item-index l.items))) ≡ each (pattern_at l.depth) (items_view l.items)

abbrev pub decreases-pattern_at : goal.decreases-pattern_at
decreases-pattern_at l = 6 * l.depth

abbrev pub decreases-each_pattern : goal.decreases-each_pattern
decreases-each_pattern l = 6 * l.depth + 1

abbrev pub decreases-patterns_in : goal.decreases-patterns_in
decreases-patterns_in l = 6 * l.depth + 2

abbrev pub decreases-and_by : goal.decreases-and_by
decreases-and_by l = 6 * l.depth + 3

abbrev pub decreases-or_by : goal.decreases-or_by
decreases-or_by l = 6 * l.depth + 3

abbrev pub decreases-keyed : goal.decreases-keyed
decreases-keyed l = 6 * l.depth + 4

abbrev pub decreases-pattern_by : goal.decreases-pattern_by
decreases-pattern_by l = 6 * l.depth + 5
