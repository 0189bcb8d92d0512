use Rattle.std.proofs.Common.{◌≡◌, take, map}
use Rattle.hk_rules.specs.PatternText.{text_of}
use Rattle.hk_replay.proofs.known.texts_of.Given as goal

abbrev pub invariant-loop-number : goal.invariant-loop-number
invariant-loop-number l = l.texts.items ≡ map text_of (take l.number l.plan.patterns)
