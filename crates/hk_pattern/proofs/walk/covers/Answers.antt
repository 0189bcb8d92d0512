-- Too short or crossed with any start is no cover.
use Rattle.std.proofs.Common.{sym}
use Rattle.hk_pattern.proofs.Walking.{uncovered}
use Rattle.hk_pattern.proofs.walk.covers.Goals as goal

pub returns-in-TooShort : goal.returns-in-TooShort
returns-in-TooShort c = sym (uncovered c.args.pieces.now c.args.path.now _ c.find_stars.ensures c.in-TooShort.is)
