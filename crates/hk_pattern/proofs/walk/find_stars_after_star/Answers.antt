-- The mark at the last `*`.
use Rattle.std.proofs.Common.{sym, ◌∙◌, arith}
use Rattle.hk_pattern.proofs.Walking.{unless, star-here, stars-star, keeps-all, keeps-star, keeps-into-stars, walked-stars}
use Rattle.hk_pattern.proofs.walk.find_stars_after_star.Goals as goal

pub returns-in-Covered : goal.returns-in-Covered
returns-in-Covered c = sym c.loop-after.invariant.keeps.same ∙ star-here c.loop-after.pieces.now c.loop-after.path.now c.in-Covered.ensures

pub returns-in-TooShort : goal.returns-in-TooShort
returns-in-TooShort c = unless _ _ (λ e. stars-star c.loop-after.pieces.now c.loop-after.path.now (c.loop-after.invariant.keeps.stars e)) c.in-TooShort.ensures

pub returns-in-Stars : goal.returns-in-Stars
returns-in-Stars c = (
  walked-stars _ _ _ _ (keeps-all _ _ _ _ _ _ c.loop-after.invariant.keeps (keeps-into-stars _ _ _ _ c.in-Stars.ensures.0)),
  (omega (arith, c.in-Stars.ensures.1.0), omega (arith, c.in-Stars.ensures.1.1)),
)

pub loop-after-preserved-in-Star : goal.loop-after-preserved-in-Star
loop-after-preserved-in-Star c = record {
  keeps = keeps-all _ _ _ _ _ _ c.loop-after.invariant.keeps (keeps-star _ _ _ _ c.in-Star.ensures.0);
  fewer = omega (arith, c.in-Star.ensures.1.0);
  shorter = omega (arith, c.in-Star.ensures.1.1);
}
