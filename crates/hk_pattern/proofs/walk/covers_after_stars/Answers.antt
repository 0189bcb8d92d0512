-- The mark at the last `**`.
use Rattle.std.proofs.Common.{sym, ◌∙◌}
use Rattle.hk_pattern.proofs.Walking.{stars-here, crossed-some, crossed-none}
use Rattle.hk_pattern.proofs.walk.covers_after_stars.Goals as goal

pub returns-in-Covered : goal.returns-in-Covered
returns-in-Covered c = sym (stars-here c.loop-after.pieces.now c.loop-after.path.now c.in-Covered.ensures) ∙ c.loop-after.invariant

pub loop-after-preserved-in-Some : goal.loop-after-preserved-in-Some
loop-after-preserved-in-Some c = crossed-some c.loop-after.pieces.now c.loop-after.path.now c.in-Some.later.now c.in-Crossed.ensures c.in-Some.ensures.value ∙ c.loop-after.invariant

pub returns-in-None : goal.returns-in-None
returns-in-None c = sym (crossed-none c.loop-after.pieces.now c.loop-after.path.now c.in-Crossed.ensures c.in-None.ensures.value) ∙ c.loop-after.invariant
