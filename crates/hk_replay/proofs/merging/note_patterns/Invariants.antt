use Rattle.std.proofs.Common.{◌≡◌, drop}
use Rattle.hk_replay.specs.Merging.{pattern_marks}
use Rattle.hk_eval.specs.Noted.{noted}
use Rattle.hk_replay.proofs.merging.note_patterns.Given as goal

abbrev pub invariant-loop-pattern : goal.invariant-loop-pattern
invariant-loop-pattern l = noted l.initial.notes (pattern_marks l.patterns) ≡ noted l.notes (pattern_marks (drop l.pattern-index l.patterns))
