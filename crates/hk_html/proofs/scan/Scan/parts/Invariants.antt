use Rattle.std.proofs.Common.{length, ◌-◌}
use Rattle.hk_html.proofs.PartsLemmas.{PartsRead}
use Rattle.hk_html.proofs.scan.Scan.parts.Given as goal

abbrev pub invariant-loop-self : goal.invariant-loop-self
invariant-loop-self l = PartsRead l.initial.self l.self

abbrev pub decreases-loop-self : goal.decreases-loop-self
decreases-loop-self l = length l.self.body.now - l.self.at
