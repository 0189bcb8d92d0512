-- What the pieces up to a `*` keep.
use Rattle.std.proofs.Common.{arith}
use Rattle.hk_pattern.proofs.Walking.{walked-kept, walked-stars}
use Rattle.hk_pattern.proofs.walk.find_stars.Goals as goal

pub returns-in-Star : goal.returns-in-Star
returns-in-Star c = walked-kept _ _ _ _ _ c.in-Star.ensures.0 (omega (arith, c.in-Star.ensures.1.0)) c.in-Star.ensures.1.1 c.find_stars_after_star.ensures

pub returns-in-Stars : goal.returns-in-Stars
returns-in-Stars c = (walked-stars _ _ _ _ c.in-Stars.ensures.0, c.in-Stars.ensures.1)
